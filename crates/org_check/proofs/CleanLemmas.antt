-- Lines without control characters stay such lines.
use Rattle.std.proofs.Common.{◌≡◌, ℕ, List, [], ◌∷◌, ◌++◌, ap, ◌∙◌, append_assoc, append-nil, subst, sym}
use Rattle.org_visible.specs.Clean.{IsClean}
use Rattle.org_check.specs.Clean.{AreCleanLines, no_line, one_more}

pub no_lines : AreCleanLines []
no_lines = no_line

-- a line without control characters and a line feed come after others
pub keeps_line : (line old between new : List ℕ) → IsClean line → between ≡ old ++ line → new ≡ between ++ 10 ∷ [] → AreCleanLines old → AreCleanLines new
keeps_line line old between new clean extended pushed before =
    subst AreCleanLines (sym (pushed ∙ ap (λ s. s ++ 10 ∷ []) extended ∙ append_assoc old line (10 ∷ []))) (one_more old line before clean)

-- such lines come after others
pub both_clean : (front rest : List ℕ) → AreCleanLines front → AreCleanLines rest → AreCleanLines (front ++ rest)
both_clean front _ before no_line = subst AreCleanLines (sym (append-nil front)) before
both_clean front _ before (one_more bytes line some clean) =
    subst AreCleanLines (append_assoc front bytes (line ++ 10 ∷ [])) (one_more (front ++ bytes) line (both_clean front bytes before some) clean)

pub keeps_lines : (more old new : List ℕ) → AreCleanLines more → new ≡ old ++ more → AreCleanLines old → AreCleanLines new
keeps_lines more old new clean added before = subst AreCleanLines (sym added) (both_clean old more before clean)
