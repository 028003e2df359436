use Rattle.std.proofs.Common.{inl, refl}
use Rattle.org_page.proofs.place.Placed.push.Goals as goal

pub returns-in_ok-push-in-Some : goal.returns-in_ok-push-in-Some
returns-in_ok-push-in-Some c = record { ok = inl ((_, refl, c.in_ok-push-in-Some.ensures.items), refl) }
