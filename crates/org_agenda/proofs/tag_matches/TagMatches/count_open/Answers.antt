use Rattle.std.proofs.Common.{◌≡◌, ◌∙◌, ◌-◌, List, ap, arith, get_or, sym}
use Rattle.std.proofs.lemmas.Bool.{leb-false, leb-true}
use Rattle.org_agenda.proofs.LevelLemmas.{closed_at, one_closed}
use Rattle.org_agenda.specs.declared.tag_matches.LevelMatches.{LevelMatches}
use Rattle.org_agenda.proofs.tag_matches.TagMatches.count_open.Goals as goal

pub returns-then-is_within : goal.returns-then-is_within
returns-then-is_within c =
    let levels = c.args.self.now in
    let kept = c.loop-kept.kept in
    let level = c.index.result.now in
    let here : level ≡ get_or levels (kept - 1) level = c.index.ensures ∙ ap (λ (ls : List LevelMatches). get_or ls (kept - 1) level) c.self.view_is in
    closed_at levels kept level c.args.up_to c.loop-kept-test.true c.loop-kept.invariant.within here (leb-true _ _ (sym c.if-is_within.ensures.value)) c.loop-kept.invariant.same

pub loop-kept-preserved : goal.loop-kept-preserved
loop-kept-preserved c =
    let levels = c.args.self.now in
    let kept = c.loop-kept.kept in
    let level = c.index.result.now in
    let here : level ≡ get_or levels (kept - 1) level = c.index.ensures ∙ ap (λ (ls : List LevelMatches). get_or ls (kept - 1) level) c.self.view_is in
    let over = leb-false _ _ (sym c.if-is_within.ensures.value) in
    let inv = c.loop-kept.invariant in
    record {
      within = omega (arith, inv.within);
      same = λ m le. one_closed levels kept level c.args.up_to m c.loop-kept-test.true inv.within here over le ∙ inv.same m le;
    }
