-- Categories that are there have a line.
use Rattle.std.proofs.Common.{◌≡◌, ℕ, false, List, [], ◌∷◌, refl, length}
use Rattle.std.specs.Prelude.{◌==◌, Vec, codes}
use Rattle.std.specs.Global.{Global}
use Rattle.org_ical.specs.Properties.{categories_lines, property}
use Rattle.org_ical.specs.Results.{bytes_of}
use Rattle.org_ical.specs.Texts.{values_text}

pub categories_some : (texts : List (Vec ℕ Global)) → (length texts == 0) ≡ false →
    categories_lines (bytes_of texts) ≡ property (codes "CATEGORIES") (values_text (bytes_of texts)) ∷ []
categories_some [] e = absurd cc
categories_some (text ∷ texts) e = refl
