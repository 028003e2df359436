-- Which findings are wanted, and which of them count (profile).
use Rattle.std.specs.Prelude.{ℕ, Bool, not, ◌&&◌, ◌||◌, nat_le, if◌then◌else◌, List, codes, filter, length, ◌==◌}
use Rattle.std.specs.List.{list_any}
use Rattle.org_check.specs.Kinds.{is_among, is_usual, severity_of}
use Rattle.org_check.specs.declared.finding.Finding.{Finding}
use Rattle.org_check.specs.declared.kind.Kind.{Kind}
use Rattle.org_check.specs.declared.table.Severity.{Severity}
use Rattle.org_check.specs.declared.table.Severity.TheVariants.{Error, Note, Warning}

-- which kinds are chosen: those that are named, else the usual ones or all, and which are left out; and the least severity
-- that counts
pub record Chosen : Type 0 where
  pub named : List Kind
  pub left_out : List Kind
  pub all : Bool
  pub least : Severity

abbrev pub severity_name : Severity → List ℕ
severity_name Note = codes "note"
severity_name Warning = codes "warning"
severity_name Error = codes "error"

abbrev pub rank_of : Severity → ℕ
rank_of Note = 0
rank_of Warning = 1
rank_of Error = 2

-- a kind is taken, if it isn't left out
abbrev pub is_taken : Chosen → Kind → Bool
is_taken c k = if length c.named == 0 then c.all || is_usual k else is_among c.named k

-- a kind is wanted
abbrev pub is_wanted : Chosen → Kind → Bool
is_wanted c k = not (is_among c.left_out k) && is_taken c k

-- it is wanted and no less severe than what counts
abbrev pub counts : Chosen → Kind → Bool
counts c k = nat_le (rank_of c.least) (rank_of (severity_of k)) && is_wanted c k

-- of findings those that are wanted, in their order
abbrev pub wanted_of : Chosen → List Finding → List Finding
wanted_of c fs = filter (λ (f : Finding). is_wanted c f.kind) fs

-- one of them counts
abbrev pub counts_any : Chosen → List Finding → Bool
counts_any c fs = list_any (λ (f : Finding). counts c f.kind) fs
