use Rattle.std.proofs.lemmas.Bool.Decides.{Decides-at}
use Rattle.org_base.proofs.SameLemmas.{texts_decided, seen_decides}
use Rattle.org_base.proofs.name_set.NameSet.is_same.Goals as goal

pub returns : goal.returns
returns c =
    record { value = seen_decides c.eq.result c.self.view_is c.other.view_is (Decides-at _ _ c.eq.ensures (texts_decided c.self.inside.names.items c.other.inside.names.items)) }
