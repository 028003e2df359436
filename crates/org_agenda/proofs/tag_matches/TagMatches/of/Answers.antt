use Rattle.std.proofs.Common.{◌∙◌, ◌++◌, ◌∷◌, [], ap, List, None}
use Rattle.org_match.proofs.Untagged.{either_none}
use Rattle.org_match.specs.Holds.{tag_items}
use Rattle.org_match.specs.TagMatches.{tag_matches}
use Rattle.org_settings.specs.Settings.{FileSettings}
use Rattle.org_agenda.proofs.LevelLemmas.{file_alone}
use Rattle.org_agenda.specs.declared.tag_matches.LevelMatches.{LevelMatches}
use Rattle.org_agenda.proofs.tag_matches.TagMatches.of.Goals as goal

pub returns-clause-value : goal.returns-clause-value
returns-clause-value c =
    let file : LevelMatches = record { heading = None; list = c.in_ok-file.file } in
    file_alone c.args.matcher.now c.args.inherit.now c.push.new.self c.in_ok-file.file
    (c.in_ok-push.ensures ∙ ap (λ (x : List LevelMatches). x ++ file ∷ []) c.new-known.ensures)
    (c.in_ok-file.ensures.value ∙ either_none _
    ∙ ap (λ tags. tag_matches tags (tag_items c.args.matcher.now)) (c.file_tags.ensures.value ∙ ap (λ (s : FileSettings). s.file_tags) c.settings.ensures.value))
