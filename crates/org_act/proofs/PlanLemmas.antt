-- What a completion makes of a text, by what is read of it.
use Rattle.std.proofs.Common.{◌≡◌, ◌≢◌, ◌∙◌, ◌+◌, ◌-◌, ◌<◌, ◌≤◌, ℕ, true, false, inl, inr, List, [], ◌∷◌, ◌++◌, append-nil, arith, length, refl, sym, ap, subst}
use Rattle.std.specs.Prelude.{Result, Ok, Err, nat_lt, string_bytes}
use Rattle.std.proofs.lemmas.Bool.{cases_Bool, le-ltb, lt-ltb}
use Rattle.org_act.specs.Changes.{Makes, no_memory, with_change}
use Rattle.org_act.specs.Completing.{amended_by, amended_in, amended_whole, completed_text, no_heading, own_text}
use Rattle.org_act.specs.declared.act.Refusal.{Refusal}
use Rattle.org_act.specs.declared.act.Refusal.TheVariants as refusal
use Rattle.org_store.specs.declared.change.OwnedChange.{OwnedChange}
use Rattle.org_act.specs.declared.completion.Completion.{Completion}
use Rattle.org_base.specs.Codes.{memory_fault}
use Rattle.org_base.specs.declared.code.Code.TheVariants as code
use Rattle.org_base.specs.declared.fault.Fault.{Fault}
use Rattle.org_base.specs.declared.fault.Fault.TheVariants.{Plain}
use Rattle.org_complete.specs.Completion.{completed, completion_part, sized}
use Rattle.org_complete.specs.Written.{IsCompletionOf, part_of}
use Rattle.org_complete.proofs.CompleteLemmas.{sized_is as part_sized}
use Rattle.org_text.proofs.ReplaceLemmas.{length_replace}
use Rattle.org_text.specs.Replace.{max_bytes, replace}

-- a text that isn't too long is itself
pub sized_is : (whole text : List ℕ) → sized whole ≡ Ok text → text ≡ whole
sized_is whole text e = elim (cases_Bool (nat_lt max_bytes (length whole))) [
  | inl h ↦ (let bad : ◌≡◌ {A = Result (List ℕ) Fault} (Err (Plain code.Size)) (Ok text) = rw h at e in absurd cc)
  | inr h ↦ (let same : ◌≡◌ {A = Result (List ℕ) Fault} (Ok whole) (Ok text) = rw h at e in cc)
]

pub made : (c : Completion) (text whole : List ℕ) (r : Result OwnedChange Refusal) → sized (text ++ c.behind.now) ≡ Ok whole → Makes r text (amended_whole c text whole) → Makes r text (completed_text c text)
unfolding completed_text
made c text whole r e h = subst (λ (s : Result (List ℕ) Fault). Makes r text (amended_in c text s)) (sym e) h

pub refused : (c : Completion) (text : List ℕ) (fault : Fault) → (fault ≢ memory_fault → sized (text ++ c.behind.now) ≡ Err fault) →
    refusal.Fault fault ≢ no_memory → completed_text c text ≡ Err (refusal.Fault fault)
unfolding completed_text
refused c text fault h not_memory = ap (amended_in c text) (h (λ e. not_memory (ap refusal.Fault e)))

-- what completing by a word makes, by the change that it is
module _ (c : Completion) (text whole word : List ℕ) (change : OwnedChange) (is : IsCompletionOf whole c.line word c.moment change) where
  -- the text with it, unless that is too long
  sized_text : completed whole c.line word c.moment ≡ sized (replace whole change.at change.del (string_bytes change.ins))
  sized_text = is.makes ∙ sym (part_sized whole (string_bytes change.ins) change.at change.del is.within)

  size : length (replace whole change.at change.del (string_bytes change.ins)) ≡ length whole - change.del + length (string_bytes change.ins)
  size = length_replace whole change.at change.del (string_bytes change.ins) is.within.end.0

  pub too_long : max_bytes < length whole - change.del + length (string_bytes change.ins) → amended_by c text whole (Ok word) ≡ Err (refusal.Fault (Plain code.Size))
  too_long lt =
      let long : nat_lt max_bytes (length (replace whole change.at change.del (string_bytes change.ins))) ≡ true = lt-ltb _ _ (omega (arith, lt, size)) in
      let none : completed whole c.line word c.moment ≡ Err (Plain code.Size) = sized_text ∙ rw long refl in
      ap (λ r. own_text text c.behind.now r (completion_part whole c.line word c.moment)) none

  -- where it isn't
  module _ (le : length whole - change.del + length (string_bytes change.ins) ≤ max_bytes) (joined : whole ≡ text ++ c.behind.now) where
    fits : completed whole c.line word c.moment ≡ Ok (replace whole change.at change.del (string_bytes change.ins))
    fits = sized_text ∙ (let short : nat_lt max_bytes (length (replace whole change.at change.del (string_bytes change.ins))) ≡ false = le-ltb _ _ (omega (arith, le, size)) in rw short refl)

    made_so : amended_by c text whole (Ok word) ≡ own_text text c.behind.now (Ok (replace whole change.at change.del (string_bytes change.ins))) (Ok (part_of change))
    made_so = (λ i. own_text text c.behind.now (fits i) (is.is i))

    -- a heading behind the text is none of its own
    pub behind_it : length text < change.at + change.del → amended_by c text whole (Ok word) ≡ Err no_heading
    behind_it lt = made_so ∙ by c.behind.now joined
      where
        by : (behind : List ℕ) → whole ≡ text ++ behind → own_text text behind (Ok (replace whole change.at change.del (string_bytes change.ins))) (Ok (part_of change)) ≡ Err no_heading
        by [] e = absurd (let all = ap length (e ∙ append-nil text) in let end = is.within.end.0 in omega (arith, all, end, lt))
        by (b ∷ bs) e = let past : nat_lt (length text) (change.at + change.del) ≡ true = lt-ltb _ _ lt in rw past refl

    pub within_it : change.at + change.del ≤ length text → amended_by c text whole (Ok word) ≡ Ok (with_change text change)
    within_it le_text = made_so ∙ by c.behind.now joined
      where
        by : (behind : List ℕ) → whole ≡ text ++ behind → own_text text behind (Ok (replace whole change.at change.del (string_bytes change.ins))) (Ok (part_of change)) ≡ Ok (with_change text change)
        by [] e = ap (λ (t : List ℕ). Ok (replace t change.at change.del (string_bytes change.ins))) (e ∙ append-nil text)
        by (b ∷ bs) e = let past : nat_lt (length text) (change.at + change.del) ≡ false = le-ltb _ _ le_text in rw past refl
