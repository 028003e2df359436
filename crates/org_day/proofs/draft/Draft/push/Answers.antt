use Rattle.std.proofs.Common.{◌++◌, ◌∙◌, ap, chars, encode_utf8_all, map}
use Rattle.org_day.specs.Shown.{shown}
use Rattle.org_day.proofs.DraftLemmas.{shown_more}
use Rattle.org_day.proofs.draft.Draft.push.Goals as goal

pub invariant_of-self-2 : goal.invariant_of-self-2
invariant_of-self-2 c =
    let text = c.args.text.now in
    record {
      shown = shown_more c.args.self.now.spans.items c.push.new.self.items _ text c.args.self.now.shown c.utf8.text
          (c.in_ok-push_shown.ensures.value ∙ ap (λ b. b ++ encode_utf8_all (map shown (chars text))) c.new-shown.ensures.bytes)
          c.in_ok-push.ensures.items;
    }
