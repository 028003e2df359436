use Rattle.org_agenda.proofs.HeadingLemmas.{own_head}
use Rattle.org_near.proofs.near.NearStamps.push_place.Goals as goal

pub push_heading-requires : goal.push_heading-requires
push_heading-requires c = record { head = own_head _ _ _ c.in-Some.facts c.in-Some.ensures c.requires.heads }
