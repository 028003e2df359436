-- A heading of a text that gets a property.
use Rattle.std.proofs.Common.{◌≡◌, ◌∙◌, ℕ, ◌+◌, ◌-◌, true, false, ◌==◌, ◌&&◌, inl, inr, List, [], ◌++◌, length, take, drop, sym, ap, arith, refl, length-take, length-drop, length-append, append_assoc}
use Rattle.std.specs.Prelude.{Option, Some, None, Ok, nat_le, slice_index}
use Rattle.std.proofs.lemmas.Bool.{cases_Bool}
use Rattle.std.proofs.lemmas.List.{drop-drop, take-append-drop, take_all}
use Rattle.org_act.specs.Lines.{first_line, has_feed, heading_at, line_end}
use Rattle.org_act.specs.Planning.{heading_line, line_below}
use Rattle.org_act.specs.PlanningLaws.{IsOldLine}
use Rattle.org_act.specs.PropertyActLaws.{HeadingsGetProperties, IsPropertyGiven}
use Rattle.org_act.specs.PropertyActs.{given_below, given_if, given_text, given_there, with_drawer}
use Rattle.org_act.specs.declared.property_act.PropertyAct.{PropertyAct}
use Rattle.org_act.proofs.PlanningLemmas.{heading_there, if_sized_is, split}
use Rattle.org_amend.specs.DrawerPuts.{Put, changed_drawer}
use Rattle.org_amend.specs.PropertyLaws.{IsBreak}
use Rattle.org_amend.specs.declared.property_change.PropertyChange.{PropertyChange}
use Rattle.org_amend.proofs.PropertyLemmas.{properties_are_given}
use Rattle.org_class.specs.Heading.{begins_heading}
use Rattle.org_stamp.specs.Pair.{is_planning}
use Rattle.org_stamp.proofs.SpacedLemmas.{drop_front, take_front}
use Rattle.org_text.specs.Replace.{replace}

-- by what is read

pub property_there : (a : PropertyAct) (text : List ℕ) (found : Option ℕ) → heading_at text a.line ≡ found → given_text a text ≡ given_if a.change text found
unfolding given_text
property_there a text found e = ap (given_if a.change text) e

pub below_by : (change : PropertyChange) (text : List ℕ) (at : ℕ) (end : List ℕ) (o : Option Put) → changed_drawer change (take (length text - at) (drop at text)) end ≡ o → with_drawer text at o ≡ given_below change text at end
unfolding given_below
below_by change text at end o e =
    ap (with_drawer text at) (sym e) ∙ ap (λ (r : List ℕ). with_drawer text at (changed_drawer change r end)) (take_all (length text - at) (drop at text) (omega (arith, length-drop at text)))

pub below_planning : (change : PropertyChange) (text : List ℕ) (at below : ℕ) (h line end : List ℕ) → h ≡ heading_line text at → below ≡ at + length h → line ≡ first_line (drop below text) → is_planning line ≡ true → end ≡ line_end line →
    given_below change text (below + length line) end ≡ given_there change text at
unfolding given_there
below_planning change text at below h line end h_is below_is line_is plans end_is =
    let same : line ≡ line_below text at = line_is ∙ (ap (λ b. first_line (drop b text)) below_is ∙ ap (λ g. first_line (drop (at + length g) text)) h_is) in
    let there : is_planning (line_below text at) ≡ true = sym (ap is_planning same) ∙ plans in
    ap (given_below change text (below + length line)) end_is
    ∙ (ap (λ l. given_below change text (below + length l) (line_end l)) same
    ∙ (ap (λ b. given_below change text (b + length (line_below text at)) (line_end (line_below text at))) (below_is ∙ ap (λ g. at + length g) h_is) ∙ (rw there refl)))

pub below_heading : (change : PropertyChange) (text : List ℕ) (at below : ℕ) (h line end : List ℕ) → h ≡ heading_line text at → below ≡ at + length h → line ≡ first_line (drop below text) → is_planning line ≡ false → end ≡ line_end h →
    given_below change text below end ≡ given_there change text at
unfolding given_there
below_heading change text at below h line end h_is below_is line_is none end_is =
    let same : line ≡ line_below text at = line_is ∙ (ap (λ b. first_line (drop b text)) below_is ∙ ap (λ g. first_line (drop (at + length g) text)) h_is) in
    let there : is_planning (line_below text at) ≡ false = sym (ap is_planning same) ∙ none in
    ap (given_below change text below) end_is
    ∙ (ap (λ b. given_below change text b (line_end h)) below_is ∙ (ap (λ g. given_below change text (at + length g) (line_end g)) h_is ∙ (rw there refl)))

-- what ends a line

breaks : (line : List ℕ) → IsBreak (line_end line)
breaks line = elim (cases_Bool (has_feed line)) [
  | inr none ↦ rw none (inl refl)
  | inl feed ↦ elim (cases_Bool (nat_le 2 (length line) && slice_index line (length line - 2) == 13)) [
    | inl returns ↦ rw (feed, returns) (inr (inr refl))
    | inr alone ↦ rw (feed, alone) (inr (inl refl))
  ]
]

-- the whole text

put_in : (front below : List ℕ) (put : Put) → replace (front ++ below) (length front) put.deleted put.inserted ≡ front ++ (put.inserted ++ drop put.deleted below)
put_in front below put =
    let text = front ++ below in
    let taken : take (length front) text ≡ front = take_front front below in
    let left : drop (length front + put.deleted) text ≡ drop put.deleted below = sym (drop-drop put.deleted (length front) text) ∙ ap (drop put.deleted) (drop_front front below) in
    ap (λ t. (t ++ put.inserted) ++ drop (length front + put.deleted) text) taken ∙ (ap (λ r. (front ++ put.inserted) ++ r) left ∙ append_assoc front put.inserted (drop put.deleted below))

record Put' (change : PropertyChange) (text new : List ℕ) (at : ℕ) (end : List ℕ) : Type 0 where
  pub put : Put
  pub was : changed_drawer change (drop at text) end ≡ Some put
  pub is : new ≡ replace text at put.deleted put.inserted

by_put : (change : PropertyChange) (text new : List ℕ) (at : ℕ) (end : List ℕ) → given_below change text at end ≡ Ok new → Put' change text new at end
unfolding given_below
by_put change text new at end made = by (changed_drawer change (drop at text) end) refl made
  where
    by : (o : Option Put) → changed_drawer change (drop at text) end ≡ o → with_drawer text at o ≡ Ok new → Put' change text new at end
    by None e h = absurd cc
    by (Some put) e h = record { put = put; was = e; is = if_sized_is (replace text at put.deleted put.inserted) new h }

given_is : (a : PropertyAct) (text new front heading planning below end : List ℕ) → IsBreak end → heading_at text a.line ≡ Some (length front) → begins_heading heading ≡ true → IsOldLine (planning ++ below) planning →
    text ≡ front ++ (heading ++ (planning ++ below)) → given_below a.change text (length front + length heading + length planning) end ≡ Ok new → IsPropertyGiven a text new
given_is a text new front heading planning below end breaks' place begins old text_is made =
    let at = length front + length heading + length planning in
    let above = front ++ (heading ++ planning) in
    let whole : text ≡ above ++ below =
    text_is ∙ (ap (λ t. front ++ t) (sym (append_assoc heading planning below)) ∙ sym (append_assoc front (heading ++ planning) below)) in
    let size : length above ≡ at = omega (arith, length-append front (heading ++ planning), length-append heading planning) in
    let p = by_put a.change text new at end made in
    let rest : drop at text ≡ below = ap (λ n. drop n text) (sym size) ∙ (ap (drop (length above)) whole ∙ drop_front above below) in
    let is : new ≡ above ++ (p.put.inserted ++ drop p.put.deleted below) =
    p.is ∙ (ap (λ n. replace text n p.put.deleted p.put.inserted) (sym size) ∙ (ap (λ t. replace t (length above) p.put.deleted p.put.inserted) whole ∙ put_in above below p.put)) in
    record {
      front = front;
      heading = heading;
      planning = planning;
      below = below;
      put = p.put;
      place = place;
      begins = begins;
      planning_is = old;
      text_is = text_is;
      new_is = is ∙ (append_assoc front (heading ++ planning) (p.put.inserted ++ drop p.put.deleted below) ∙ ap (λ t. front ++ t) (append_assoc heading planning (p.put.inserted ++ drop p.put.deleted below)));
      given = properties_are_given a.change below end p.put breaks' (sym (ap (λ b. changed_drawer a.change b end) rest) ∙ p.was);
    }

of_place : (a : PropertyAct) (text new : List ℕ) (at : ℕ) → heading_at text a.line ≡ Some at → given_there a.change text at ≡ Ok new → IsPropertyGiven a text new
unfolding given_there
of_place a text new at place made =
    let found = heading_there text a.line at place in
    let front = take at text in
    let size : length front ≡ at = omega (arith, length-take at text, found.0) in
    let tail = drop at text in
    let h = first_line tail in
    let below = drop (length h) tail in
    let same : below ≡ drop (at + length h) text = drop-drop (length h) at text in
    let text_is : text ≡ front ++ (h ++ below) = sym (take-append-drop at text) ∙ ap (λ t. front ++ t) (split tail) in
    let line = first_line below in
    let line_is : line_below text at ≡ line = ap first_line (sym same) in
    elim (cases_Bool (is_planning (line_below text at))) [
      | inl plans ↦
          let rest = drop (length line) below in
          let e : given_below a.change text (at + length h + length (line_below text at)) (line_end (line_below text at)) ≡ Ok new = rw plans at made in
          let own : given_below a.change text (length front + length h + length line) (line_end line) ≡ Ok new =
          ap (λ n. given_below a.change text (n + length h + length line) (line_end line)) size ∙ (ap (λ l. given_below a.change text (at + length h + length l) (line_end l)) (sym line_is) ∙ e) in
          given_is a text new front h line rest (line_end line) (breaks line) (place ∙ ap Some (sym size)) found.1 (inr (ap first_line (split below), sym (ap is_planning line_is) ∙ plans))
          (text_is ∙ ap (λ b. front ++ (h ++ b)) (split below)) own
      | inr none ↦
          let e : given_below a.change text (at + length h) (line_end h) ≡ Ok new = rw none at made in
          let own : given_below a.change text (length front + length h + 0) (line_end h) ≡ Ok new =
          ap (λ n. given_below a.change text n (line_end h)) (omega (arith, size)) ∙ e in
          given_is a text new front h [] below (line_end h) (breaks h) (place ∙ ap Some (sym size)) found.1 (inl refl) text_is own
    ]

by_place : (a : PropertyAct) (text new : List ℕ) (found : Option ℕ) → heading_at text a.line ≡ found → given_if a.change text found ≡ Ok new → IsPropertyGiven a text new
by_place a text new None place made = absurd cc
by_place a text new (Some at) place made = of_place a text new at place made

pub headings_get_properties : HeadingsGetProperties
unfolding given_text
headings_get_properties a text new made = by_place a text new (heading_at text a.line) refl made
