-- The place among the words is that among the keywords.
use Rattle.std.proofs.Common.{◌≡◌, ◌∙◌, ap, sym, length}
use Rattle.org_settings.specs.Keywords.{keyword_place}
use Rattle.org_settings.proofs.KeywordLemmas.{place_shown, as_many_shown}
use Rattle.org_settings.proofs.keywords.Keywords.place.Goals as goal

pub returns-clause-value : goal.returns-clause-value
returns-clause-value c =
    c.place.ensures.value ∙ place_shown c.self.inside.words c.self.inside.kinds.items c.args.word.now c.self.invariant ∙ ap (λ ks. keyword_place ks c.args.word.now) c.self.view_is

pub returns-clause-within : goal.returns-clause-within
returns-clause-within c =
    let many : length c.self.inside.words ≡ length c.args.self.now = sym (as_many_shown c.self.inside.words c.self.inside.kinds.items c.self.invariant) ∙ ap length c.self.view_is in
    rw (← many) c.place.ensures.within
