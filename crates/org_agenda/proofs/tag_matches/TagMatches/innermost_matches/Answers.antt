use Rattle.std.proofs.Common.{◌≡◌, ◌∙◌, ◌-◌, [], List, ap, arith, length, sym}
use Rattle.std.specs.Prelude.{Some, slice_get}
use Rattle.std.proofs.lemmas.Option.{slice_get_within}
use Rattle.org_agenda.proofs.LevelLemmas.{innermost_last}
use Rattle.org_agenda.specs.TagMatches.{innermost_matches}
use Rattle.org_agenda.specs.declared.tag_matches.LevelMatches.{LevelMatches}
use Rattle.org_agenda.proofs.tag_matches.TagMatches.innermost_matches.Goals as goal

pub returns-in-Some : goal.returns-in-Some
returns-in-Some c =
    let levels : List LevelMatches = c.deref.result.now in
    let last = length levels - 1 in
    let there : slice_get levels last ≡ Some c.in-Some.level.now = sym c.in-Some.ensures.value in
    let inside = slice_get_within levels last c.in-Some.level.now there in
    c.as_slice.ensures.value
    ∙ sym (innermost_last levels c.in-Some.level.now [] last (omega (arith, inside)) there)
    ∙ ap (λ (ls : List LevelMatches). innermost_matches ls []) (c.deref.ensures.value ∙ c.self.view_is)
