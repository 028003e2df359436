use Rattle.std.proofs.Common.{◌∙◌, ap, sym, length}
use Rattle.org_settings.proofs.KeywordLemmas.{as_many_shown}
use Rattle.org_settings.proofs.keywords.Keywords.count.Goals as goal

pub returns : goal.returns
returns c =
    record { value = c.count.ensures.value ∙ sym (as_many_shown c.self.inside.words c.self.inside.kinds.items c.self.invariant) ∙ ap length c.self.view_is }
