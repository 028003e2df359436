-- What was found of each heading, and the rows that are left, give what all give.
use Rattle.std.proofs.Common.{◌≡◌, ℕ, drop}
use Rattle.std.specs.BTreeMap.{get}
use Rattle.std.specs.Ordering.{nat_cmp}
use Rattle.org_day.specs.Leads.{lead_from, lead_of}
use Rattle.org_day.proofs.lead.leads_of.Given as goal

abbrev pub invariant-loop-place : goal.invariant-loop-place
invariant-loop-place l = (heading : ℕ) → lead_from heading l.place (get nat_cmp l.leads heading) (drop l.place l.stands) ≡ lead_of l.stands heading
