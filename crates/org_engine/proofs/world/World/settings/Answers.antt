use Rattle.std.proofs.Common.{sym, ap, ◌∙◌}
use Rattle.std.specs.Option.{option_map}
use Rattle.org_store.specs.File.{FileView as KeptFile}
use Rattle.org_store.specs.Outline.{file_settings}
use Rattle.org_engine.proofs.KeywordLemmas.{settings-file_named}
use Rattle.org_engine.proofs.world.World.settings.Goals as goal

pub returns-in-None : goal.returns-in-None
returns-in-None g c = record { value = rw (← c.self.view_is) (ap (option_map (λ (k : KeptFile). file_settings k.text)) c.in-None.ensures.value ∙ sym (settings-file_named c.args.name.now c.self.inside.files.entries)) }

pub returns-in-Some : goal.returns-in-Some
returns-in-Some g c = record { value = rw (← c.self.view_is, c.settings.ensures.value) (ap (option_map (λ (k : KeptFile). file_settings k.text)) c.in-Some.ensures.value ∙ sym (settings-file_named c.args.name.now c.self.inside.files.entries)) }
