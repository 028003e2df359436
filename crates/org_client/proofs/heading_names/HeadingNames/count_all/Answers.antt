-- One name more came.
use Rattle.std.proofs.Common.{◌≡◌, ◌∙◌, ◌+◌, ◌<◌, ℕ, List, [], ◌∷◌, ◌++◌, length, take, sym, ap, subst, arith}
use Rattle.std.specs.Prelude.{Some, slice_get}
use Rattle.std.proofs.lemmas.List.{take_more}
use Rattle.std.proofs.lemmas.Option.{get_or_from_slice_get}
use Rattle.org_client.specs.HeadingNames.{FileNames}
use Rattle.org_ids.specs.Counts.{CameThese}
use Rattle.org_ids.proofs.CountLemmas.{came_more}
use Rattle.org_client.proofs.heading_names.HeadingNames.count_all.Goals as goal

pub loop-place-preserved : goal.loop-place-preserved
loop-place-preserved c =
    let names : List (List ℕ) = c.args.self.now.names in
    let place : ℕ = c.loop-place.place in
    let name : List ℕ = c.get.result.now in
    let seen : c.self.inside.names.names ≡ names = ap (λ (v : FileNames). v.names) c.self.view_is in
    let there : slice_get names place ≡ Some name = ap (λ (ns : List (List ℕ)). slice_get ns place) (sym seen) ∙ c.get.ensures.value in
    let low : place < length names = omega (arith, c.loop-place-test.true, c.count-place-end.ensures.value, ap (length {A = List ℕ}) seen) in
    let more : take (place + 1) names ≡ take place names ++ name ∷ [] =
    take_more names place name low ∙ ap (λ (x : List ℕ). take place names ++ x ∷ []) (get_or_from_slice_get names place name name there) in
    subst (CameThese c.args.counts.now c.count.new.self) (sym more)
    (came_more c.args.counts.now c.loop-place.counts c.count.new.self (take place names) name c.loop-place.invariant c.in_ok-count.ensures.ok)
