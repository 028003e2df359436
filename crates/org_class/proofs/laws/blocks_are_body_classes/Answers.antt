-- The classes by the relation are those of the function.
use Rattle.org_class.proofs.BlockLaw.{body_blocks}
use Rattle.org_class.proofs.laws.blocks_are_body_classes.Goals as goal

pub returns : goal.returns
returns c = body_blocks
