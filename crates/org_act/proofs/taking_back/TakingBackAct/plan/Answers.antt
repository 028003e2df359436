use Rattle.std.proofs.Common.{◌∙◌, ℕ, List, Ok, length, sym, ap}
use Rattle.org_act.specs.TakingBack.{made}
use Rattle.org_act.proofs.TakingBackLemmas.{goes_within, text_goes, text_stays}
use Rattle.org_text.specs.Replace.{replace}
use Rattle.org_act.proofs.taking_back.TakingBackAct.plan.Goals as goal

pub returns-then-not-goes_back : goal.returns-then-not-goes_back
returns-then-not-goes_back c = record { value = λ _. text_stays (made c.args.self.now) c.args.text.now (sym c.if-not-goes_back.ensures.value) }

pub returns : goal.returns
returns c =
    let m = made c.args.self.now in
    let text = c.args.text.now in
    let goes = sym c.if-not-goes_back.ensures.value in
    record { value = (goes_within m text goes, text_goes m text goes ∙ ap (λ (d : List ℕ). Ok (replace text m.at (length m.inserted) d)) (sym c.in_ok-from_str.ensures.ok)) }
