-- What a line says under a keyword is the stamp of the last pair, and that is by its bytes.
use Rattle.std.proofs.Common.{◌≡◌, ◌≢◌, ◌∙◌, ◌<◌, ℕ, ◌+◌, Bool, true, false, ◌&&◌, not, inl, inr, List, [], ◌∷◌, length, take, drop, refl, sym, ap, subst}
use Rattle.std.specs.Prelude.{Option, Some, None, IfSome, if◌then◌else◌}
use Rattle.std.specs.List.{AllByRecursion, slice_range}
use Rattle.std.specs.Option.{option_map, option_or}
use Rattle.std.proofs.lemmas.Bool.{and_parts}
use Rattle.std.proofs.lemmas.Slice.Eq.{bytes_eq-Decides}
use Rattle.std.specs.Str.{is_utf8}
use Rattle.org_amend.specs.Planning.{bytes_under, date_text, dated_draft, dated_line, dated_stamp, is_left, is_said, last_pair, left_line, pair_bytes, says, says_under, stays, text_if, undated_line, wanted_under}
use Rattle.org_amend.specs.PlanningLaws.{DatesAreSaid, IsDate, IsStampOf, LostStampsAreUnsaid, SaysElse, said, stamp_of_planning}
use Rattle.org_amend.specs.declared.typed.TypedDate.{TypedDate}
use Rattle.org_base.specs.declared.span.Span.{Span}
use Rattle.org_drawer.specs.Planning.{is_same, last_of, planned, stamp_if, stamp_under}
use Rattle.org_lines.proofs.LineLemmas.{range_is}
use Rattle.org_stamp.specs.CanPrint.{CanPrint, IsRepeater}
use Rattle.org_stamp.specs.Pair.{is_empty, pairs}
use Rattle.org_stamp.specs.Print.{stamp_text}
use Rattle.org_stamp.specs.Stamp.{IsSingle, IsStamp}
use Rattle.org_stamp.specs.declared.pair.Pair.{Pair}
use Rattle.org_stamp.specs.declared.pair.PlanningKeyword.{PlanningKeyword}
use Rattle.org_stamp.specs.declared.pair.PlanningKeyword.TheVariants.{Scheduled, Deadline, Closed}
use Rattle.org_stamp.specs.declared.stamp.Stamp.{Stamp}
use Rattle.org_stamp.proofs.CanPrintLemmas.{can_print}
use Rattle.org_stamp.proofs.PairedLemmas.{spans_are_stamps}
use Rattle.org_stamp.proofs.PrintedLemmas.{printed_is_stamp}
use Rattle.org_stamp.proofs.ReadLemmas.{single_only}

-- the last pair of a keyword

abbrev with_span : Pair → Stamp × Span
with_span p = (p.stamp, record { at = p.at; len = p.len })

or_map : (a b : Option Pair) → option_or (option_map with_span a) (option_map with_span b)
    ≡ option_map with_span (option_or a b)
or_map None b = refl
or_map (Some p) b = refl

if_map : (test : Bool) (p : Pair) → (if test then Some (with_span p) else None)
    ≡ option_map with_span (if test then Some p else None)
if_map true p = refl
if_map false p = refl

last_stamp : (word : PlanningKeyword) (ps : List Pair) → last_of word ps ≡ option_map with_span (last_pair word ps)
last_stamp word [] = refl
last_stamp word (p ∷ ps) =
    ap (λ (o : Option (Stamp × Span)). option_or o (stamp_if word p)) (last_stamp word ps)
    ∙ (ap (option_or (option_map with_span (last_pair word ps))) (if_map (is_same word p.word) p)
    ∙ or_map (last_pair word ps) (if is_same word p.word then Some p else None))

first_of_span : (o : Option Pair) → option_map (λ (s : Stamp × Span). s.0) (option_map with_span o) ≡ option_map (λ (p : Pair). p.stamp) o
first_of_span None = refl
first_of_span (Some p) = refl

under_planned : (word : PlanningKeyword) (ps : List Pair) → stamp_under word (planned ps) ≡ last_of word ps
under_planned Scheduled ps = refl
under_planned Deadline ps = refl
under_planned Closed ps = refl

said_of : (word : PlanningKeyword) (ps : List Pair) → stamp_of_planning word (if not (is_empty ps) then Some (planned ps) else None) ≡ option_map (λ (p : Pair). p.stamp) (last_pair word ps)
said_of word [] = refl
said_of word (p ∷ ps) =
    ap (option_map (λ (s : Stamp × Span). s.0)) (under_planned word (p ∷ ps) ∙ last_stamp word (p ∷ ps)) ∙ first_of_span (last_pair word (p ∷ ps))

pub said_pair : (word : PlanningKeyword) (line : List ℕ) → said word line ≡ option_map (λ (p : Pair). p.stamp) (last_pair word (pairs line))
said_pair word line = said_of word (pairs line)

-- its bytes are its stamp

or_some : (P : Pair → Type 0) (a b : Option Pair) → IfSome a P → IfSome b P → IfSome (option_or a b) P
or_some P None b h k = k
or_some P (Some p) b h k = h

if_some : (P : Pair → Type 0) (test : Bool) (p : Pair) → P p → IfSome (if test then Some p else None) P
if_some P true p h = h
if_some P false p h = tt

all_last : (P : Pair → Type 0) (word : PlanningKeyword) (ps : List Pair) → AllByRecursion P ps → IfSome (last_pair word ps) P
all_last P word [] h = tt
all_last P word (p ∷ ps) h = or_some P (last_pair word ps) (if is_same word p.word then Some p else None) (all_last P word ps h.1) (if_some P (is_same word p.word) p h.0)

abbrev IsThere : List ℕ → Pair → Type 0
IsThere line p = IsSingle (slice_range line p.at (p.at + p.len)) p.stamp

there : (line : List ℕ) (o : Option Pair) → IfSome o (λ p. IsSingle (take p.len (drop p.at line)) p.stamp) → IfSome o (IsThere line)
there line None h = tt
there line (Some p) h = subst (λ (b : List ℕ). IsSingle b p.stamp) (sym (range_is line p.at p.len)) h

last_there : (word : PlanningKeyword) (line : List ℕ) → IfSome (last_pair word (pairs line)) (IsThere line)
last_there word line = there line (last_pair word (pairs line)) (all_last (λ p. IsSingle (take p.len (drop p.at line)) p.stamp) word (pairs line) (spans_are_stamps line))

same_single : (bytes : List ℕ) (s t : Stamp) → IsSingle bytes s → IsSingle bytes t → s ≡ t
same_single bytes s t one other =
    let both : ◌≡◌ {A = Option (Stamp × ℕ)} (Some (s, length bytes)) (Some (t, length bytes)) = sym (single_only bytes [] s one) ∙ single_only bytes [] t other in
    let pair : ◌≡◌ {A = Stamp × ℕ} (s, length bytes) (t, length bytes) = cc in
    ap (λ (p : Stamp × ℕ). p.0) pair

some_bytes : (bytes : List ℕ) (s : Stamp) → IsSingle bytes s → bytes ≢ []
some_bytes bytes s h none = (let wrong = sym h.bytes_is ∙ none in cc)

-- where the bytes under a keyword are those of a stamp, the line says it
pub said_by : (word : PlanningKeyword) (line bytes : List ℕ) (s : Stamp) → IsSingle bytes s → bytes_under word line ≡ bytes → said word line ≡ Some s
said_by word line bytes s single is = said_pair word line ∙ by (last_pair word (pairs line)) (last_there word line) is
  where
    by : (o : Option Pair) → IfSome o (IsThere line) → pair_bytes line o ≡ bytes → option_map (λ (p : Pair). p.stamp) o ≡ Some s
    by None h e = absurd (some_bytes bytes s single (sym e))
    by (Some p) h e = ap Some (same_single bytes p.stamp s (subst (λ (b : List ℕ). IsSingle b p.stamp) e h) single)

-- where there are none, it says nothing
pub unsaid : (word : PlanningKeyword) (line : List ℕ) → bytes_under word line ≡ [] → said word line ≡ None
unsaid word line is = said_pair word line ∙ by (last_pair word (pairs line)) (last_there word line) is
  where
    by : (o : Option Pair) → IfSome o (IsThere line) → pair_bytes line o ≡ [] → option_map (λ (p : Pair). p.stamp) o ≡ None
    by None h e = refl
    by (Some p) h e = absurd (some_bytes (slice_range line p.at (p.at + p.len)) p.stamp h e)

-- lines with the same bytes there say the same
pub said_same : (word : PlanningKeyword) (old new : List ℕ) → bytes_under word new ≡ bytes_under word old → said word new ≡ said word old
said_same word old new is = by (last_pair word (pairs old)) refl (last_there word old)
  where
    by : (o : Option Pair) → last_pair word (pairs old) ≡ o → IfSome o (IsThere old) → said word new ≡ said word old
    by None e h = unsaid word new (is ∙ ap (pair_bytes old) e) ∙ sym (unsaid word old (ap (pair_bytes old) e))
    by (Some p) e h =
        let bytes = slice_range old p.at (p.at + p.len) in
        said_by word new bytes p.stamp h (is ∙ ap (pair_bytes old) e) ∙ sym (said_by word old bytes p.stamp h (ap (pair_bytes old) e))

-- what is tested

of_test : (word : PlanningKeyword) (stamp old new : List ℕ) (other : PlanningKeyword) → says_under word stamp old new other ≡ true → bytes_under other new ≡ wanted_under word stamp old other
unfolding says_under
of_test word stamp old new other h = (bytes_eq-Decides (bytes_under other new) (wanted_under word stamp old other)).0 h

all_said : (word : PlanningKeyword) (stamp old new : List ℕ) (o : PlanningKeyword) → says_under word stamp old new Scheduled ≡ true → says_under word stamp old new Deadline ≡ true →
    says_under word stamp old new Closed ≡ true → says_under word stamp old new o ≡ true
all_said word stamp old new Scheduled s d c = s
all_said word stamp old new Deadline s d c = d
all_said word stamp old new Closed s d c = c

pub read_back : (word : PlanningKeyword) (stamp old new : List ℕ) (other : PlanningKeyword) → says word stamp old new ≡ true → bytes_under other new ≡ wanted_under word stamp old other
unfolding says
read_back word stamp old new other h =
    let first = and_parts (says_under word stamp old new Scheduled) (says_under word stamp old new Deadline && says_under word stamp old new Closed) h in
    let rest = and_parts (says_under word stamp old new Deadline) (says_under word stamp old new Closed) first.1 in
    of_test word stamp old new other (all_said word stamp old new other first.0 rest.0 rest.1)

same_word : (word : PlanningKeyword) → is_same word word ≡ true
same_word Scheduled = refl
same_word Deadline = refl
same_word Closed = refl

own : (word : PlanningKeyword) (stamp old : List ℕ) → wanted_under word stamp old word ≡ stamp
own word stamp old = rw (same_word word) refl

else_is : (word other : PlanningKeyword) (stamp old : List ℕ) → is_same word other ≡ false → wanted_under word stamp old other ≡ bytes_under other old
else_is word other stamp old e = rw e refl

pub says_else : (word : PlanningKeyword) (stamp old new : List ℕ) → says word stamp old new ≡ true → SaysElse word old new
says_else word stamp old new h = λ other e. said_same other old new (read_back word stamp old new other h ∙ else_is word other stamp old e)

-- a text that is taken
pub record IsTaken (test : Bool) (bytes given : List ℕ) : Type 0 where
  pub wanted : test ≡ true
  pub is : given ≡ bytes

pub taken : (test : Bool) (bytes given : List ℕ) → text_if test bytes ≡ Some given → IsTaken test bytes given
taken test bytes given e = by test (is_utf8 bytes) e
  where
    by : (t u : Bool) → (if t && u then Some bytes else None) ≡ Some given → IsTaken t bytes given
    by true true h = record { wanted = refl; is = cc }
    by true false h = absurd cc
    by false u h = absurd cc

pub said_parts : (word : PlanningKeyword) (stamp line end new : List ℕ) → is_said word stamp line end new ≡ true → says word stamp line new ≡ true
unfolding is_said
said_parts word stamp line end new h = (and_parts (says word stamp line new) _ h).0

pub record IsDatedBy (word : PlanningKeyword) (date : TypedDate) (line end new : List ℕ) : Type 0 where
  pub says_it : says word (date_text word date line) line new ≡ true

pub dated_by : (word : PlanningKeyword) (date : TypedDate) (line end new : List ℕ) → dated_line word date line end ≡ Some new → IsDatedBy word date line end new
unfolding dated_line
dated_by word date line end new e =
    let stamp = date_text word date line in
    let draft = dated_draft word stamp line end in
    let t = taken (is_said word stamp line end draft) draft new e in
    record { says_it = subst (λ (n : List ℕ). says word stamp line n ≡ true) (sym t.is) (said_parts word stamp line end draft t.wanted) }

-- the stamp of a date can be printed, and is printed as one stamp

old_can : (line : List ℕ) (word : PlanningKeyword) → IfSome (last_pair word (pairs line)) (λ p. CanPrint p.stamp)
old_can line word = by (last_pair word (pairs line)) (last_there word line)
  where
    by : (o : Option Pair) → IfSome o (IsThere line) → IfSome o (λ p. CanPrint p.stamp)
    by None h = tt
    by (Some p) h = can_print (slice_range line p.at (p.at + p.len)) p.stamp (inl h)

-- the first of two that is there is such a one as each is
of_either : {X : Type 0} (P : X → Type 0) (one other : Option X) → IfSome one P → IfSome other P → IfSome (option_or one other) P
of_either P None other h k = k
of_either P (Some x) other h k = h

or_none : {X : Type 0} (one : Option X) → one ≡ option_or one None
or_none None = refl
or_none (Some x) = refl

dated_can : (date : TypedDate) (old : Option Pair) → IsDate date → IfSome old (λ p. CanPrint p.stamp) → CanPrint (dated_stamp date old)
dated_can date None is h = record { day = is.day; time = is.time; end_time = is.end_time; end_of_start = is.end_of_start; repeater = is.repeater; delay = is.delay; last = tt; last_time = tt }
dated_can date (Some p) is h = record {
  day = is.day;
  time = is.time;
  end_time = is.end_time;
  end_of_start = is.end_of_start;
  repeater = of_either IsRepeater date.repeater p.stamp.repeater is.repeater h.repeater;
  delay = of_either (λ d. d.n < 10000) date.delay p.stamp.delay is.delay h.delay;
  last = tt;
  last_time = tt;
}

no_last : (date : TypedDate) (old : Option Pair) → (dated_stamp date old).last ≡ None
no_last date None = refl
no_last date (Some p) = refl

only_single : (bytes : List ℕ) (s : Stamp) → s.last ≡ None → IsStamp bytes s → IsSingle bytes s
only_single bytes s none (inl single) = single
only_single bytes s none (inr range) = absurd (let some : ◌≡◌ {A = Option (ℕ × Option ℕ)} (Some (range.second.day, range.second.time)) None = sym (ap (λ (x : Stamp). x.last) range.stamp_is) ∙ none in cc)

printed_single : (s : Stamp) → s.last ≡ None → CanPrint s → IsSingle (stamp_text s) s
printed_single s none can = only_single (stamp_text s) s none (printed_is_stamp s can)

stamp_is_of : (date : TypedDate) (old : Option Pair) → IsStampOf date (option_map (λ (p : Pair). p.stamp) old) (dated_stamp date old)
stamp_is_of date None =
    record { active = refl; day = refl; time = refl; end_time = refl; repeater = or_none date.repeater; delay = or_none date.delay; last = refl }
stamp_is_of date (Some p) = record { active = refl; day = refl; time = refl; end_time = refl; repeater = refl; delay = refl; last = refl }

pub dates_are_said : DatesAreSaid
unfolding date_text
dates_are_said word date line end new is e =
    let by = dated_by word date line end new e in
    let old = last_pair word (pairs line) in
    let s = dated_stamp date old in
    let single = printed_single s (no_last date old) (dated_can date old is (old_can line word)) in
    let bytes = read_back word (date_text word date line) line new word by.says_it ∙ own word (date_text word date line) line in
    record {
      stamp = s;
      said_is = said_by word new (stamp_text s) s single bytes;
      is_of = subst (λ (o : Option Stamp). IsStampOf date o s) (sym (said_pair word line)) (stamp_is_of date old);
      others = says_else word (date_text word date line) line new by.says_it;
    }

pub record IsLeft (word : PlanningKeyword) (line next left : List ℕ) : Type 0 where
  pub says_it : says word [] line left ≡ true
  pub stays_so : stays line next left ≡ true

pub left_by : (word : PlanningKeyword) (line next left : List ℕ) → undated_line word line next ≡ Some left → IsLeft word line next left
unfolding undated_line is_left
left_by word line next left e =
    let draft = left_line word line next in
    let t = taken (says word [] line draft && stays line next draft) draft left e in
    let parts = and_parts (says word [] line draft) (stays line next draft) t.wanted in
    record { says_it = subst (λ (n : List ℕ). says word [] line n ≡ true) (sym t.is) parts.0; stays_so = subst (λ (n : List ℕ). stays line next n ≡ true) (sym t.is) parts.1 }

pub lost_stamps_are_unsaid : LostStampsAreUnsaid
lost_stamps_are_unsaid word line next left e =
    let by = left_by word line next left e in
    (unsaid word left (read_back word [] line left word by.says_it ∙ own word [] line), says_else word [] line left by.says_it)
