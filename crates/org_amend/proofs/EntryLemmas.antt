-- What the lines of a new heading say when they are read.
use Rattle.std.proofs.Common.{◌≡◌, ◌∙◌, ℕ, Bool, true, false, ◌==◌, ◌&&◌, not, inl, inr, List, [], ◌∷◌, ◌++◌, length, map, refl, sym, ap, subst, append-nil, arith}
use Rattle.std.specs.Prelude.{Option, Some, None, Result, Ok, Err, nat_le, bytes_eq}
use Rattle.std.specs.List.{concat, list_all}
use Rattle.std.specs.Option.{option_and_then, option_map}
use Rattle.std.proofs.lemmas.Bool.{and_parts, cases_Bool, eqb-true}
use Rattle.std.proofs.lemmas.Slice.Eq.{bytes_eq-Decides}
use Rattle.org_amend.specs.Entries.{are_below, are_of_entry, entry_text, has_drawer, is_body_class, is_entry, is_planned, joined, planning_line, with_body, with_date, with_dates, with_head, with_planning}
use Rattle.org_amend.specs.EntryLaws.{EntriesAreReadBack, HeadsAreReadBack, IsDateOrNone, IsOfDate, SaysDates, SaysHead}
use Rattle.org_amend.specs.Heads.{HeadWords, head_line, head_text, if_none_lost, is_line_of, lost_of, lost_part, read_back, same_cookie, same_part, same_parts, same_title, words_of}
use Rattle.org_amend.specs.Planning.{has_feed}
use Rattle.org_amend.specs.PlanningLaws.{IsStampOf, said}
use Rattle.org_amend.specs.declared.entry.NewEntry.{NewEntry}
use Rattle.org_amend.specs.declared.head.Unreadable.{Unreadable}
use Rattle.org_amend.specs.declared.typed.TypedDate.{TypedDate}
use Rattle.org_amend.proofs.ClassLemmas.{not_is}
use Rattle.org_amend.proofs.SaidLemmas.{dates_are_said}
use Rattle.org_base.specs.Spans.{bytes_in}
use Rattle.org_base.specs.declared.span.Span.{Span}
use Rattle.org_class.specs.Classes.{is_setting_class, lines_of_setting, section_classes}
use Rattle.org_class.specs.Heading.{begins_heading}
use Rattle.org_class.specs.Sections.{sections}
use Rattle.org_class.specs.declared.class.Class.{Class}
use Rattle.org_class.specs.declared.class.Class.TheVariants as class
use Rattle.org_class.proofs.Cuts.{concat-sections}
use Rattle.org_drawer.specs.Planning.{is_same}
use Rattle.org_head.specs.Cookie.{cookie_value}
use Rattle.org_head.specs.Head.{head_of}
use Rattle.org_head.specs.declared.head.Head.{Head}
use Rattle.org_lines.specs.Cuts.{lines}
use Rattle.org_settings.specs.Settings.{FileSettings}
use Rattle.org_stamp.specs.Pair.{is_planning, pairs_from}
use Rattle.org_stamp.specs.declared.pair.PlanningKeyword.{PlanningKeyword}
use Rattle.org_stamp.specs.declared.pair.PlanningKeyword.TheVariants.{Closed, Deadline, Scheduled}
use Rattle.org_stamp.specs.declared.stamp.Stamp.{Stamp}
use Rattle.org_text.specs.Replace.{max_bytes}

-- parts that are found by tests

pub part_is : (line : List ℕ) (span : Option Span) (word : Option (List ℕ)) → same_part line span word ≡ true → option_map (bytes_in line) span ≡ word
part_is line None None h = refl
part_is line None (Some word) h = absurd cc
part_is line (Some span) None h = absurd cc
part_is line (Some span) (Some word) h = ap Some ((bytes_eq-Decides (bytes_in line span) word).0 h)

pub cookie_is : (line : List ℕ) (span : Option Span) (word : Option (List ℕ)) → same_cookie line span word ≡ true → option_map (λ cookie. cookie_value (bytes_in line cookie)) span ≡ word
cookie_is line None None h = refl
cookie_is line None (Some word) h = absurd cc
cookie_is line (Some span) None h = absurd cc
cookie_is line (Some span) (Some word) h = ap Some ((bytes_eq-Decides (cookie_value (bytes_in line span)) word).0 h)

pub parts_are : (line : List ℕ) (spans : List Span) (words : List (List ℕ)) → same_parts line spans words ≡ true → map (bytes_in line) spans ≡ words
parts_are line [] [] h = refl
parts_are line [] (word ∷ words) h = absurd cc
parts_are line (span ∷ spans) [] h = absurd cc
parts_are line (span ∷ spans) (word ∷ words) h =
    let both = and_parts (bytes_eq (bytes_in line span) word) (same_parts line spans words) h in
    let first : bytes_in line span ≡ word = (bytes_eq-Decides (bytes_in line span) word).0 both.0 in
    ap (λ (w : List ℕ). w ∷ map (bytes_in line) spans) first ∙ ap (λ (ws : List (List ℕ)). word ∷ ws) (parts_are line spans words both.1)

record NoneLost (line : List ℕ) (head : Head) (words : HeadWords) : Type 0 where
  pub keyword : same_part line head.keyword words.keyword ≡ true
  pub priority : same_cookie line head.priority words.priority ≡ true
  pub tags : same_parts line head.tags words.tags ≡ true
  pub title : (same_title line head words && head.level == words.level) ≡ true

none_lost : (line : List ℕ) (head : Head) (words : HeadWords) → lost_part line head words ≡ None → NoneLost line head words
unfolding lost_part
none_lost line head words e = elim (cases_Bool (same_part line head.keyword words.keyword)) [
  | inr k ↦ absurd (let wrong = rw k at e in cc)
  | inl k ↦
      let e1 = rw k at e in
      elim (cases_Bool (same_cookie line head.priority words.priority)) [
        | inr p ↦ absurd (let wrong = rw p at e1 in cc)
        | inl p ↦
            let e2 = rw p at e1 in
            elim (cases_Bool (same_parts line head.tags words.tags)) [
              | inr t ↦ absurd (let wrong = rw t at e2 in cc)
              | inl t ↦
                  let e3 = rw t at e2 in
                  elim (cases_Bool (same_title line head words && head.level == words.level)) [
                    | inr n ↦ absurd (let wrong = rw n at e3 in cc)
                    | inl n ↦ record { keyword = k; priority = p; tags = t; title = n }
                  ]
            ]
      ]
]

says_head : (line : List ℕ) (head : Head) (words : HeadWords) → lost_part line head words ≡ None → SaysHead line head words
says_head line head words e =
    let all = none_lost line head words e in
    let title = and_parts (same_title line head words) (head.level == words.level) all.title in
    let own = and_parts (not head.comment) (bytes_eq (bytes_in line head.title) words.title) title.0 in
    record {
      level = eqb-true head.level words.level title.1;
      keyword = part_is line head.keyword words.keyword all.keyword;
      priority = cookie_is line head.priority words.priority all.priority;
      comment = not_is head.comment own.0;
      title = (bytes_eq-Decides (bytes_in line head.title) words.title).0 own.1;
      tags = parts_are line head.tags words.tags all.tags;
    }

record Lost (line given : List ℕ) (o : Option Unreadable) : Type 0 where
  pub none : o ≡ None
  pub is : given ≡ line

kept : (line given : List ℕ) (o : Option Unreadable) → if_none_lost line o ≡ Ok given → Lost line given o
kept line given None e = record { none = refl; is = cc }
kept line given (Some why) e = absurd cc

pub heads_are_read_back : HeadsAreReadBack
unfolding head_line
heads_are_read_back settings words end line e = elim (cases_Bool (is_line_of words (head_text words))) [
  | inr fails ↦ absurd (let wrong = rw fails at e in cc)
  | inl holds ↦
      let text = head_text words ++ end in
      let found : read_back settings words text ≡ Ok line = rw holds at e in
      let k = kept text line (lost_of settings text words) found in
      (k.is, subst (λ (l : List ℕ). SaysHead l (head_of settings l) words) (sym k.is) (says_head text (head_of settings text) words k.none))
]

-- dates

empty_line : is_planning [] ≡ false
unfolding pairs_from
empty_line = refl

says_none : (word : PlanningKeyword) → said word [] ≡ None
says_none word = rw empty_line refl

with_one : (word : PlanningKeyword) (date : Option TypedDate) (line end new : List ℕ) → IsDateOrNone date → said word line ≡ None → with_date word date line end ≡ Some new → IsOfDate date (said word new)
with_one word None line end new real none e = (let same : line ≡ new = cc in ap (said word) (sym same) ∙ none)
with_one word (Some date) line end new real none e =
    let d = dates_are_said word date line end new real e in
    (d.stamp, d.said_is, subst (λ (o : Option Stamp). IsStampOf date o d.stamp) none d.is_of)

with_others : (word other : PlanningKeyword) (date : Option TypedDate) (line end new : List ℕ) → IsDateOrNone date → is_same word other ≡ false → with_date word date line end ≡ Some new → said other new ≡ said other line
with_others word other None line end new real differ e = (let same : line ≡ new = cc in ap (said other) (sym same))
with_others word other (Some date) line end new real differ e = (dates_are_said word date line end new real e).others other differ

record Between (scheduled deadline : Option TypedDate) (end planning : List ℕ) : Type 0 where
  pub line : List ℕ
  pub first : with_date Deadline deadline [] end ≡ Some line
  pub second : with_date Scheduled scheduled line end ≡ Some planning

between : (scheduled deadline : Option TypedDate) (end planning : List ℕ) → planning_line scheduled deadline end ≡ Some planning → Between scheduled deadline end planning
unfolding planning_line
between scheduled deadline end planning e = by (with_date Deadline deadline [] end) refl e
  where
    by : (o : Option (List ℕ)) → with_date Deadline deadline [] end ≡ o → option_and_then (λ line. with_date Scheduled scheduled line end) o ≡ Some planning → Between scheduled deadline end planning
    by None was e = absurd cc
    by (Some line) was e = record { line = line; first = was; second = e }

dates_said : (scheduled deadline : Option TypedDate) (end planning : List ℕ) → IsDateOrNone scheduled → IsDateOrNone deadline → planning_line scheduled deadline end ≡ Some planning → SaysDates scheduled deadline planning
dates_said scheduled deadline end planning s d e =
    let b = between scheduled deadline end planning e in
    let none : said Scheduled b.line ≡ None = with_others Deadline Scheduled deadline [] end b.line d refl b.first ∙ says_none Scheduled in
    let due : said Deadline planning ≡ said Deadline b.line = with_others Scheduled Deadline scheduled b.line end planning s refl b.second in
    record {
      scheduled_is = with_one Scheduled scheduled b.line end planning s none b.second;
      deadline_is = subst (IsOfDate deadline) (sym due) (with_one Deadline deadline [] end b.line d (says_none Deadline) b.first);
      none_closed = with_others Scheduled Closed scheduled b.line end planning s refl b.second ∙ (with_others Deadline Closed deadline [] end b.line d refl b.first ∙ says_none Closed);
    }

-- the whole

no_setting : (c : Class) → is_body_class c ≡ true → is_setting_class c ≡ false
no_setting class.Setting h = absurd cc
no_setting class.Heading h = refl
no_setting class.Planning h = refl
no_setting class.DrawerOpen h = refl
no_setting class.Node h = refl
no_setting class.DrawerEnd h = refl
no_setting class.Clock h = refl
no_setting class.Comment h = refl
no_setting class.BlockOpen h = refl
no_setting class.Verbatim h = refl
no_setting class.BlockEnd h = refl
no_setting class.Plain h = refl

none_of : (ls : List (List ℕ)) (cs : List Class) → list_all is_body_class cs ≡ true → lines_of_setting ls cs ≡ []
none_of [] cs h = refl
none_of (l ∷ ls) [] h = refl
none_of (l ∷ ls) (c ∷ cs) h =
    let both = and_parts (is_body_class c) (list_all is_body_class cs) h in
    rw (no_setting c both.0) (none_of ls cs both.1)

none_below : (b : Bool) (ls : List (List ℕ)) (cs : List Class) → are_below b cs ≡ true → lines_of_setting ls cs ≡ []
none_below false ls cs h = none_of ls cs h
none_below true [] cs h = refl
none_below true (l ∷ ls) [] h = absurd cc
none_below true (l ∷ ls) (class.Planning ∷ cs) h = none_of ls cs h
none_below true (l ∷ ls) (class.Heading ∷ cs) h = absurd cc
none_below true (l ∷ ls) (class.DrawerOpen ∷ cs) h = absurd cc
none_below true (l ∷ ls) (class.Node ∷ cs) h = absurd cc
none_below true (l ∷ ls) (class.DrawerEnd ∷ cs) h = absurd cc
none_below true (l ∷ ls) (class.Clock ∷ cs) h = absurd cc
none_below true (l ∷ ls) (class.Setting ∷ cs) h = absurd cc
none_below true (l ∷ ls) (class.Comment ∷ cs) h = absurd cc
none_below true (l ∷ ls) (class.BlockOpen ∷ cs) h = absurd cc
none_below true (l ∷ ls) (class.Verbatim ∷ cs) h = absurd cc
none_below true (l ∷ ls) (class.BlockEnd ∷ cs) h = absurd cc
none_below true (l ∷ ls) (class.Plain ∷ cs) h = absurd cc

no_settings : (b : Bool) (ls : List (List ℕ)) (cs : List Class) → are_of_entry b cs ≡ true → lines_of_setting ls cs ≡ []
no_settings b [] cs h = refl
no_settings b (l ∷ ls) [] h = absurd cc
no_settings b (l ∷ ls) (class.Heading ∷ cs) h = none_below b ls cs h
no_settings b (l ∷ ls) (class.Planning ∷ cs) h = absurd cc
no_settings b (l ∷ ls) (class.DrawerOpen ∷ cs) h = absurd cc
no_settings b (l ∷ ls) (class.Node ∷ cs) h = absurd cc
no_settings b (l ∷ ls) (class.DrawerEnd ∷ cs) h = absurd cc
no_settings b (l ∷ ls) (class.Clock ∷ cs) h = absurd cc
no_settings b (l ∷ ls) (class.Setting ∷ cs) h = absurd cc
no_settings b (l ∷ ls) (class.Comment ∷ cs) h = absurd cc
no_settings b (l ∷ ls) (class.BlockOpen ∷ cs) h = absurd cc
no_settings b (l ∷ ls) (class.Verbatim ∷ cs) h = absurd cc
no_settings b (l ∷ ls) (class.BlockEnd ∷ cs) h = absurd cc
no_settings b (l ∷ ls) (class.Plain ∷ cs) h = absurd cc

only : (text : List ℕ) (ss : List (List ℕ)) → concat ss ≡ text → length ss ≡ 1 → ss ≡ text ∷ []
only text [] whole one = absurd (omega (arith, one))
only text (s ∷ []) whole one = ap (λ (t : List ℕ). t ∷ []) (sym (append-nil s) ∙ whole)
only text (s ∷ t ∷ ss) whole one = absurd (omega (arith, one))

record IsEntry (b : Bool) (text : List ℕ) : Type 0 where
  pub begins : begins_heading text ≡ true
  pub ends : has_feed text ≡ true
  pub one : sections text ≡ text ∷ []
  pub classes_are : are_of_entry b (section_classes text) ≡ true
  pub no_drawer : has_drawer text (section_classes text) ≡ false

tested : (b : Bool) (text : List ℕ) → is_entry b text ≡ true → IsEntry b text
unfolding is_entry
tested b text h =
    let one = and_parts (nat_le (length text) max_bytes) _ h in
    let two = and_parts (begins_heading text) _ one.1 in
    let three = and_parts (has_feed text) _ two.1 in
    let four = and_parts (length (sections text) == 1) _ three.1 in
    let five = and_parts (are_of_entry b (section_classes text)) (not (has_drawer text (section_classes text))) four.1 in
    record {
      begins = two.0;
      ends = three.0;
      one = only text (sections text) (concat-sections text) (eqb-true (length (sections text)) 1 four.0);
      classes_are = five.0;
      no_drawer = not_is (has_drawer text (section_classes text)) five.1;
    }

record Joined (line planning body text : List ℕ) : Type 0 where
  pub is : text ≡ joined line planning body
  pub entry : IsEntry (is_planned planning) text

if_joined : (line planning body text : List ℕ) → with_body line planning body ≡ Ok text → Joined line planning body text
unfolding with_body
if_joined line planning body text e =
    let all = joined line planning body in
    elim (cases_Bool (is_entry (is_planned planning) all)) [
      | inr fails ↦ absurd (let wrong = rw fails at e in cc)
      | inl holds ↦
          let same : ◌≡◌ {A = Result (List ℕ) Unreadable} (Ok all) (Ok text) = rw holds at e in
          let is : text ≡ all = cc in
          record { is = is; entry = subst (IsEntry (is_planned planning)) (sym is) (tested (is_planned planning) all holds) }
    ]

record Dated (line : List ℕ) (entry : NewEntry) (end text : List ℕ) : Type 0 where
  pub planning : List ℕ
  pub was : planning_line entry.scheduled entry.deadline end ≡ Some planning
  pub joined_so : Joined line planning entry.body.now text

if_dated : (line : List ℕ) (entry : NewEntry) (end text : List ℕ) → with_dates line entry end ≡ Ok text → Dated line entry end text
unfolding with_dates
if_dated line entry end text e = by (planning_line entry.scheduled entry.deadline end) refl e
  where
    by : (o : Option (List ℕ)) → planning_line entry.scheduled entry.deadline end ≡ o → with_planning line entry.body.now o ≡ Ok text → Dated line entry end text
    by None was e = absurd cc
    by (Some planning) was e = record { planning = planning; was = was; joined_so = if_joined line planning entry.body.now text e }

record Headed (settings : FileSettings) (entry : NewEntry) (end text : List ℕ) : Type 0 where
  pub line : List ℕ
  pub was : head_line settings (words_of entry.head) end ≡ Ok line
  pub dated : Dated line entry end text

if_headed : (settings : FileSettings) (entry : NewEntry) (end text : List ℕ) → entry_text settings entry end ≡ Ok text → Headed settings entry end text
unfolding entry_text
if_headed settings entry end text e = by (head_line settings (words_of entry.head) end) refl e
  where
    by : (r : Result (List ℕ) Unreadable) → head_line settings (words_of entry.head) end ≡ r → with_head entry end r ≡ Ok text → Headed settings entry end text
    by (Err why) was e = absurd cc
    by (Ok line) was e = record { line = line; was = was; dated = if_dated line entry end text e }

pub entries_are_read_back : EntriesAreReadBack
entries_are_read_back settings entry end text s d e =
    let h = if_headed settings entry end text e in
    let j = h.dated.joined_so in
    record {
      line = h.line;
      planning = h.dated.planning;
      text_is = j.is;
      says = (heads_are_read_back settings (words_of entry.head) end h.line h.was).1;
      dates = dates_said entry.scheduled entry.deadline end h.dated.planning s d h.dated.was;
      begins = j.entry.begins;
      ends = j.entry.ends;
      one = j.entry.one;
      classes_are = j.entry.classes_are;
      no_settings = no_settings (is_planned h.dated.planning) (lines text) (section_classes text) j.entry.classes_are;
      no_drawer = j.entry.no_drawer;
    }
