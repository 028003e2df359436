-- The keywords of files of a map.
use Rattle.std.proofs.Common.{◌≡◌, List, refl, ℕ}
use Rattle.std.specs.Map.{lookup}
use Rattle.std.specs.Option.{option_map}
use Rattle.std.specs.Prelude.{String}
use Rattle.org_engine.specs.Files.{files_of}
use Rattle.org_engine.specs.Step.{settings_named}
use Rattle.org_engine.proofs.FilesLemmas.{is_key, shown-file_named}
use Rattle.org_store.specs.File.{FileView as KeptFile}
use Rattle.org_store.specs.Outline.{file_settings}

pub settings-file_named : {Y : Type 0} (name : List ℕ) (es : List (String Y × KeptFile)) → settings_named name (files_of es) ≡ option_map (λ (k : KeptFile). file_settings k.text) (lookup (is_key name) es)
settings-file_named name es = shown-file_named _ _ (λ e. refl) name es
