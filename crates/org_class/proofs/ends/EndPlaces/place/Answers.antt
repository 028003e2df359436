-- What the map finds is what its view finds.
use Rattle.std.proofs.Common.{ap, ◌∙◌}
use Rattle.std.specs.Ordering.{is_eq, nat_cmp}
use Rattle.std.specs.Option.{unwrap_or}
use Rattle.std.specs.Map.{lookup}
use Rattle.std.specs.Cmp.Lexicographic.{slice_cmp}
use Rattle.org_class.specs.Ends.{place_of}
use Rattle.org_class.proofs.EndLemmas.{place-seen}
use Rattle.org_class.proofs.ends.EndPlaces.place.Goals as goal

pub returns : goal.returns
returns c =
    record {
      value =
          let es = c.self.inside.by_name.entries in
          c.unwrap_or.ensures
          ∙ ap (λ o. unwrap_or o 0)
          (c.copied.ensures ∙ c.get.ensures.value
          ∙ ap (λ q. lookup (λ k. is_eq (slice_cmp nat_cmp q k.items)) es) (c.as_slice.ensures.value ∙ c.in_ok-folded.ensures.ok)
          ∙ place-seen _ es)
          ∙ ap (λ p. place_of p c.args.name.now) c.self.view_is;
    }
