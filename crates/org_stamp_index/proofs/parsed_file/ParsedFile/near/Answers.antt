use Rattle.org_stamp_index.proofs.parsed_file.ParsedFile.near.Goals as goal

pub returns-clause-value : goal.returns-clause-value
returns-clause-value c = rw (← c.self.view_is) c.near.ensures.value
