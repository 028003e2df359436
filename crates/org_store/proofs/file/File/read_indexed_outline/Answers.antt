use Rattle.std.proofs.Common.{◌∙◌, ap}
use Rattle.std.specs.List.{count_by}
use Rattle.org_class.specs.Sections.{sections}
use Rattle.org_store.specs.Outline.{file_settings}
use Rattle.org_store.specs.Sections.{is_pending}
use Rattle.org_store.proofs.OutlineLemmas.{none_pending}
use Rattle.org_store.proofs.file.File.read_indexed_outline.Goals as goal

pub keep_index-requires : goal.keep_index-requires
keep_index-requires g c = record { read = ap (count_by is_pending) c.in_ok-sections.ensures.value ∙ none_pending (file_settings c.args.self.now.text) (sections c.args.self.now.text) }
