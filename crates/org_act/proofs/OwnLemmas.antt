-- A text of which the end isn't its own.
use Rattle.std.proofs.Common.{◌≡◌, ◌∙◌, ℕ, ◌+◌, ◌<◌, ◌≤◌, List, [], ◌∷◌, ◌++◌, length, refl, ap, arith, append-nil}
use Rattle.std.specs.Prelude.{Result, Ok, Err}
use Rattle.std.proofs.lemmas.Bool.Decides.{nat_tests}
use Rattle.org_act.specs.Completing.{no_heading, own_part, own_text}
use Rattle.org_act.specs.declared.act.Refusal.TheVariants as refusal
use Rattle.org_base.specs.declared.fault.Fault.{Fault}
use Rattle.org_complete.specs.Parts.{Part}
use Rattle.org_text.specs.Replace.{replace}

own_within : (text : List ℕ) (p : Part) → p.at + p.del ≤ length text → own_part text (Ok p) ≡ Ok (replace text p.at p.del p.ins)
own_within text p within = grind (arith, nat_tests)

own_past : (text : List ℕ) (p : Part) → length text < p.at + p.del → own_part text (Ok p) ≡ Err no_heading
own_past text p past = grind (arith, nat_tests)

-- what is replaced in the text itself
pub own_kept : (text behind new : List ℕ) (p : Part) → p.at + p.del ≤ length text → new ≡ replace (text ++ behind) p.at p.del p.ins →
    own_text text behind (Ok new) (Ok p) ≡ Ok (replace text p.at p.del p.ins)
own_kept text [] new p within is = ap Ok (is ∙ ap (λ (t : List ℕ). replace t p.at p.del p.ins) (append-nil text))
own_kept text (b ∷ bs) new p within is = own_within text p within

-- what is replaced after it
pub own_behind : (text behind new : List ℕ) (p : Part) → p.at + p.del ≤ length (text ++ behind) → length text < p.at + p.del → own_text text behind (Ok new) (Ok p) ≡ Err no_heading
own_behind text [] new p all past = absurd (omega (arith, ap length (append-nil text)))
own_behind text (b ∷ bs) new p all past = own_past text p past

-- what is refused
pub own_refused : (text behind : List ℕ) (fault : Fault) (part : Result Part Fault) → own_text text behind (Err fault) part ≡ Err (refusal.Fault fault)
own_refused text [] fault part = refl
own_refused text (b ∷ bs) fault part = refl
