-- What is asked, as the code keeps it.
use Rattle.std.specs.Prelude.{ℕ, List, chars, if◌then◌else◌}
use Rattle.org_search.specs.Folded.{folded}
use Rattle.org_search.specs.Typed as typed
use Rattle.org_search.specs.Typed.{Asked}
use Rattle.org_search.specs.declared.search.Sought.{Sought}
use Rattle.org_search.specs.declared.search.Sought.TheVariants.{Word, Pattern}
use Rattle.org_search.specs.declared.search.Term.{Term}

-- what is looked for
abbrev pub sought_of : Sought → typed.Sought
sought_of (Word finder) = typed.Word finder
sought_of (Pattern pattern) = typed.Pattern pattern

-- what has to be there, or mustn't
abbrev pub asked_of : Term → Asked
asked_of term = record { is_wanted = term.is_wanted; sought = sought_of term.sought }
