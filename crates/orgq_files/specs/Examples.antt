-- Worked examples: what the definitions say of ordinary inputs, and of those at which a wrong rule says something else.
use Rattle.std.specs.Prelude.{◌≡◌, [], ◌∷◌, false, true, codes}
use Rattle.orgq_files.specs.Keywords.{names_keywords, with_keywords}
use Rattle.orgq_files.specs.Settings.{words_with}
use Rattle.orgq_files.specs.declared.setting.Choice.TheVariants.{Color, File}

-- a text that names keywords keeps them; one in a block is none. Of the command line `orgq todo` and a file that says two
-- options: both count, or the one that isn't named
pub record ExamplesHold : Type 0 where
  pub own_keywords : names_keywords (codes "#+TODO: A | B\n* A x\n") ≡ true
  pub named_in_a_block : names_keywords (codes "#+BEGIN_EXAMPLE\n#+TODO: A | B\n#+END_EXAMPLE\n") ≡ false
  pub none_named : with_keywords (codes "* A x") (codes "A | B") ≡ codes "* A x\n#+TODO: A | B\n"
  pub none_named_before : words_with (record { background = false; color = false; columns = false; file = false; inbox = false; inherit = false; keywords = false; log_done = false; log_into_drawer = false; log_repeat = false; next_action = false; profile = false; project = false; words = false })
      ((Color, codes "never") ∷ (File, codes "a b.org") ∷ []) (codes "orgq" ∷ codes "todo" ∷ [])
      ≡ codes "orgq" ∷ codes "--color=never" ∷ codes "--file=a b.org" ∷ codes "todo" ∷ []
  pub color_named_before : words_with (record { background = false; color = true; columns = false; file = false; inbox = false; inherit = true; keywords = false; log_done = false; log_into_drawer = false; log_repeat = false; next_action = false; profile = false; project = false; words = false })
      ((Color, codes "never") ∷ (File, codes "a b.org") ∷ []) (codes "orgq" ∷ codes "todo" ∷ [])
      ≡ codes "orgq" ∷ codes "--file=a b.org" ∷ codes "todo" ∷ []
