use Rattle.std.proofs.Common.{◌∙◌, ap, sym, arith, length}
use Rattle.org_settings.specs.Keywords.{keyword_first}
use Rattle.org_settings.proofs.KeywordLemmas.{as_many_shown, first_shown}
use Rattle.org_settings.proofs.keywords.Keywords.first_of_sequence.Goals as goal

pub index-requires : goal.index-requires
index-requires c =
    omega (arith, c.requires, c.self.invariant, as_many_shown c.self.inside.words c.self.inside.kinds.items c.self.invariant, ap length c.self.view_is)

pub returns : goal.returns
returns c =
    let ws = c.self.inside.words in
    let ss = c.self.inside.kinds.items in
    let many = as_many_shown ws ss c.self.invariant in
    record {
      value = sym (first_shown ws ss c.args.place c.index.result.now c.self.invariant (omega (arith, c.requires, many, ap length c.self.view_is)) (sym c.index.ensures))
          ∙ ap (λ ks. keyword_first ks c.args.place) c.self.view_is;
    }
