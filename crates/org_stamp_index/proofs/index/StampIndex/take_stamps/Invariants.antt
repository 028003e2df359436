use Rattle.std.proofs.Common.{◌≡◌}
use Rattle.org_stamp_index.specs.NearQuery.{is_reminding}
use Rattle.org_stamp_index.specs.Index.{is_waiting}
use Rattle.org_stamp_index.proofs.TakeLemmas.{IsLeft}
use Rattle.org_stamp_index.proofs.index.StampIndex.take_stamps.Given as goal

abbrev pub invariant-loop-ahead : goal.invariant-loop-ahead
invariant-loop-ahead l = record {
  heading_of : l.self.heading_of.items ≡ l.fn.self.heading_of.items;
  first_id_of : l.self.first_id_of.items ≡ l.fn.self.first_id_of.items;
  profile : l.self.profile ≡ l.fn.self.profile;
  settings : l.self.settings.value ≡ l.fn.self.settings.value;
  reminding : IsLeft l.fn.self.profile is_reminding l.first l.stamps l.ahead l.fn.self.reminding l.self.reminding;
  plain : IsLeft l.fn.self.profile is_waiting l.first l.stamps l.ahead l.fn.self.plain l.self.plain;
}
