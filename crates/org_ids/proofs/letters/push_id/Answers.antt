-- One letter more is written, and one less is left.
use Rattle.std.proofs.Common.{◌≡◌, ◌∙◌, ◌++◌, ◌∷◌, [], ◌+◌, ◌-◌, ◌<◌, ℕ, List, suc, map, sym, ap, arith, append_assoc}
use Rattle.std.specs.List.{range_with_len}
use Rattle.org_ids.specs.Letters.{letter_at}
use Rattle.org_ids.proofs.letters.push_id.Goals as goal

step : (sum place count : ℕ) → place < count →
    map (letter_at sum) (range_with_len place (count - place)) ≡ letter_at sum place ∷ map (letter_at sum) (range_with_len (place + 1) (count - (place + 1)))
step sum place count h =
    let e : count - place ≡ suc (count - (place + 1)) = omega (arith, h) in
    ap (λ n. map (letter_at sum) (range_with_len place n)) e

pub loop-place-preserved : goal.loop-place-preserved
loop-place-preserved c =
    let rest : List ℕ = map (letter_at c.args.sum) (range_with_len (c.loop-place.place + 1) (c.args.count - (c.loop-place.place + 1))) in
    ap (λ (x : List ℕ). x ++ rest) (c.in_ok-push.ensures.items ∙ ap (λ b. c.loop-place.out.items ++ b ∷ []) c.letter_at.ensures.value)
    ∙ append_assoc c.loop-place.out.items (letter_at c.args.sum c.loop-place.place ∷ []) rest
    ∙ ap (λ (x : List ℕ). c.loop-place.out.items ++ x) (sym (step c.args.sum c.loop-place.place c.args.count c.loop-place-test.true))
    ∙ c.loop-place.invariant
