-- The keyword up to the mark, and what is said behind it.
use Rattle.std.proofs.Common.{◌∙◌, ◌+◌, ℕ, List, Some, ap, drop, sym}
use Rattle.std.proofs.lemmas.List.{take_rest}
use Rattle.std.specs.Option.{option_map}
use Rattle.org_trace.specs.State.{change_to}
use Rattle.org_trace.proofs.state.change_at.Goals as goal

pub returns-in-Some : goal.returns-in-Some
returns-in-Some c =
    let ks = c.args.settings.now.keywords in
    let text = c.args.text.now in
    let behind = c.args.end + 1 in
    record {
      value = ap Some (c.change_to.ensures.value ∙ ap (λ (rest : List ℕ). change_to ks rest c.in-Some.to) (take_rest text behind))
          ∙ ap (option_map (change_to ks (drop behind text))) (sym c.in-Some.is ∙ c.keyword_place.ensures.value);
    }
