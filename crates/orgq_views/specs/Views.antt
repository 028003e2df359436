-- Views with a name, as a file of them says (profile).
use Rattle.std.specs.Prelude.{Bool, ◌==◌, length}
use Rattle.orgq_views.specs.declared.views.View.{View}

-- no question stands below its name
abbrev pub shows_nothing : View → Bool
shows_nothing view = length view.blocks.items == 0
