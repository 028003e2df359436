-- The classes of the lines under a heading, with a line that was changed.
use Rattle.std.proofs.Common.{◌≡◌, ◌∙◌, ℕ, ◌==◌, Bool, true, false, ◌&&◌, not, inl, inr, List, [], ◌∷◌, length, get_or, refl, sym, ap, arith}
use Rattle.std.specs.Prelude.{Option, Some, None}
use Rattle.std.proofs.lemmas.Bool.{and_parts, cases_Bool, eqb-true}
use Rattle.org_amend.specs.Planning.{ends_like, is_plain, stays}
use Rattle.org_amend.specs.PlanningLaws.{DatedLinesArePlanning, OtherLinesStay, said}
use Rattle.org_amend.proofs.SaidLemmas.{dates_are_said, left_by}
use Rattle.org_class.specs.Blocks.{body_classes}
use Rattle.org_class.specs.Classes.{classes}
use Rattle.org_class.specs.Drawers.{classes_below, is_drawer_open}
use Rattle.org_class.specs.Heading.{begins_heading}
use Rattle.org_class.specs.LineClass.{has_hash}
use Rattle.org_class.specs.declared.class.Class.TheVariants.{Heading, Plain, Planning as PlanningLine}
use Rattle.org_class.proofs.MarkLemmas.{block_has_hash, comment_has_hash, setting_has_hash}
use Rattle.org_stamp.specs.Pair.{is_clock, is_planning, pairs_from}
use Rattle.org_stamp.specs.declared.pair.PlanningKeyword.{PlanningKeyword}
use Rattle.org_stamp.specs.declared.stamp.Stamp.{Stamp}

pub said_planning : (word : PlanningKeyword) (line : List ℕ) (s : Stamp) → said word line ≡ Some s → is_planning line ≡ true
said_planning word line s h = elim (cases_Bool (is_planning line)) [
  | inl e ↦ e
  | inr e ↦ absurd (let wrong : ◌≡◌ {A = Option Stamp} None (Some s) = rw e at h in cc)
]

pub not_is : (b : Bool) → not b ≡ true → b ≡ false
not_is true h = absurd cc
not_is false h = refl

planned : (h p : List ℕ) (ls : List (List ℕ)) → begins_heading h ≡ true → is_planning p ≡ true → classes (h ∷ p ∷ ls) ≡ Heading ∷ PlanningLine ∷ classes_below ls
planned h p ls is plans = rw (is, plans) refl

unplanned : (h : List ℕ) (ls : List (List ℕ)) → begins_heading h ≡ true → is_planning (get_or ls 0 []) ≡ false → classes (h ∷ ls) ≡ Heading ∷ classes_below ls
unplanned h [] is none = rw is refl
unplanned h (l ∷ ls) is none = rw (is, none) refl

body : (ls : List (List ℕ)) → is_drawer_open (get_or ls 0 []) ≡ false → classes_below ls ≡ body_classes None ls
body [] none = refl
body (l ∷ ls) none = rw none refl

text_line : (l : List ℕ) (ls : List (List ℕ)) → has_hash l ≡ false → is_clock l ≡ false → body_classes None (l ∷ ls) ≡ Plain ∷ body_classes None ls
text_line l ls no_hash no_clock = rw (block_has_hash l no_hash, comment_has_hash l no_hash, setting_has_hash l no_hash, no_clock) refl

plain : (h l : List ℕ) (ls : List (List ℕ)) → begins_heading h ≡ true → is_planning l ≡ false → is_plain l (get_or ls 0 []) ≡ true → classes (h ∷ l ∷ ls) ≡ Heading ∷ Plain ∷ classes_below ls
unfolding is_plain
plain h l ls is none h_plain =
    let next = get_or ls 0 [] in
    let one = and_parts (not (begins_heading l)) _ h_plain in
    let two = and_parts (not (has_hash l)) _ one.1 in
    let three = and_parts (not (is_clock l)) _ two.1 in
    let four = and_parts (not (is_drawer_open l)) (not (is_drawer_open next)) three.1 in
    let below : classes (h ∷ l ∷ ls) ≡ Heading ∷ classes_below (l ∷ ls) = unplanned h (l ∷ ls) is none in
    below
    ∙ (ap (λ cs. Heading ∷ cs) (body (l ∷ ls) (not_is (is_drawer_open l) four.0))
    ∙ (ap (λ cs. Heading ∷ cs) (text_line l ls (not_is (has_hash l) two.0) (not_is (is_clock l) three.0))
    ∙ ap (λ cs. Heading ∷ Plain ∷ cs) (sym (body ls (not_is (is_drawer_open next) four.1)))))

pub dated_lines_are_planning : DatedLinesArePlanning
dated_lines_are_planning word date line end new h ls date_is is e =
    let d = dates_are_said word date line end new date_is e in
    planned h new ls is (said_planning word new d.stamp d.said_is)

nothing_left : (line next : List ℕ) → stays line next [] ≡ true → is_planning next ≡ false
unfolding stays pairs_from
nothing_left line next h = not_is (is_planning next) h

text_left : (line next : List ℕ) (b : ℕ) (bs : List ℕ) → is_planning (b ∷ bs) ≡ false → stays line next (b ∷ bs) ≡ true → is_plain (b ∷ bs) next ≡ true
unfolding stays
text_left line next b bs none h = elim (cases_Bool (length (b ∷ bs) == 0)) [
  | inl e ↦ absurd (let zero_len = eqb-true (length (b ∷ bs)) 0 e in omega arith)
  | inr e ↦
      let rest : (ends_like line (b ∷ bs) && is_plain (b ∷ bs) next) ≡ true = rw (none, e) at h in
      (and_parts (ends_like line (b ∷ bs)) (is_plain (b ∷ bs) next) rest).1
]

pub other_lines_stay : OtherLinesStay
other_lines_stay word line [] h ls is e = unplanned h ls is (nothing_left line (get_or ls 0 []) (left_by word line (get_or ls 0 []) [] e).stays_so)
other_lines_stay word line (b ∷ bs) h ls is e =
    let so = (left_by word line (get_or ls 0 []) (b ∷ bs) e).stays_so in
    elim (cases_Bool (is_planning (b ∷ bs))) [
      | inl p ↦ planned h (b ∷ bs) ls is p ∙ (rw p refl)
      | inr p ↦ plain h (b ∷ bs) ls is p (text_left line (get_or ls 0 []) b bs p so) ∙ (rw p refl)
    ]
