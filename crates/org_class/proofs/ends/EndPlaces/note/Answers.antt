-- The map's entries are those of the view, with one inserted.
use Rattle.std.proofs.Common.{cond, ap, ◌∙◌}
use Rattle.org_base.specs.Words.{same_word}
use Rattle.org_class.specs.Ends.{place_of}
use Rattle.org_class.proofs.EndLemmas.{seen, place_of-insert}
use Rattle.org_class.proofs.ends.EndPlaces.note.Goals as goal

pub returns : goal.returns
returns c =
    record {
      ok = λ q.
          ap (λ es. place_of (seen es) q) c.in_ok-insert.ensures.entries
          ∙ place_of-insert q c.args.name.now c.self.inside.by_name.entries c.in_ok-folded.folded c.args.place c.in_ok-folded.ensures.ok
          ∙ ap (λ p. cond (same_word c.args.name.now q) c.args.place (place_of p q)) c.self.view_is;
    }
