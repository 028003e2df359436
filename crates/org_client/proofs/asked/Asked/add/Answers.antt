-- A section stands behind those of its file.
use Rattle.std.proofs.Common.{◌≡◌, ◌∙◌, ◌<◌, ◌++◌, ◌∷◌, [], ℕ, zero, suc, List, length, map, get_or, refl, sym, ap, arith}
use Rattle.std.specs.Prelude.{slice_set}
use Rattle.std.proofs.lemmas.List.{length-map, map-set}
use Rattle.org_client.specs.RowIds.{with_section}
use Rattle.org_client.proofs.asked.Asked.add.Goals as goal

mapped : {V : Type 0} (items : V → List ℕ) (vs : List V) (i : ℕ) (d : V) → i < length vs → get_or (map items vs) i [] ≡ items (get_or vs i d)
mapped items [] i d low = absurd (omega (arith, low))
mapped items (v ∷ vs) zero d low = refl
mapped items (v ∷ vs) (suc i) d low = mapped items vs i d (omega (arith, low))

-- the lists of vectors, one of them longer
longer : {V : Type 0} (items : V → List ℕ) (vs : List V) (i : ℕ) (v d : V) → i < length vs → (section : ℕ) → items v ≡ items (get_or vs i d) ++ section ∷ [] →
    map items (slice_set vs i v) ≡ with_section (map items vs) i section
longer items vs i v d low section e = map-set items vs i v ∙ ap (slice_set (map items vs) i) (e ∙ ap (λ (t : List ℕ). t ++ section ∷ []) (sym (mapped items vs i d low)))

pub returns : goal.returns
returns c =
    let vectors = c.self.inside.lists.items in
    let place = c.args.file in
    let within : place < length vectors = omega (arith, length-map vectors (λ v. v.items), ap length c.self.view_is, c.requires.within) in
    let new = c.in_ok-push.ensures.items ∙ ap (λ v. v.items ++ c.args.section ∷ []) c.index_mut.ensures.value in
    record {
      ok = longer (λ v. v.items) vectors place c.push.new.self c.index_mut.result.now within c.args.section new
          ∙ (λ i. with_section (c.self.view_is i) place c.args.section);
    }
