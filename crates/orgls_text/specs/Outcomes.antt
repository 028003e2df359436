-- What a call that changes a text answers.
use Rattle.std.specs.Prelude.{◌≡◌, ◌≢◌, Option, None, Some, Result, Ok, Err}
use Rattle.org_base.specs.Codes.{memory_fault}
use Rattle.org_base.specs.declared.fault.Fault.{Fault}
use Rattle.orgls_text.specs.Documents.{DocumentView, DocumentsView, Event, view_behind, with_document}

-- a value that it gives where there is one, unless memory is refused; a refusal that isn't out of memory where there is none
abbrev pub Becomes : {T : Type 0} → Option T → Result T Fault → Type 0
Becomes (Some wanted) (Ok given) = given ≡ wanted
Becomes (Some wanted) (Err fault) = fault ≡ memory_fault
Becomes None (Ok given) = ⊥
Becomes None (Err fault) = Unit {0}

-- the same of a value that is changed in its place
abbrev pub Leaves : {T U : Type 0} → Option T → T → Result U Fault → Type 0
Leaves (Some wanted) new (Ok given) = new ≡ wanted
Leaves (Some wanted) new (Err fault) = fault ≡ memory_fault
Leaves None new (Ok given) = ⊥
Leaves None new (Err fault) = Unit {0}

-- what is open behind an event: what the definition says where it is taken; what was open before where it's refused, for want
-- of memory or because the definition says so too
abbrev pub IsBehind : {U : Type 0} → DocumentsView → Event → DocumentsView → Result U Fault → Type 0
IsBehind old event new (Ok done) = new ≡ view_behind old event
IsBehind old event new (Err fault) = (new ≡ old) × (fault ≢ memory_fault → view_behind old event ≡ old)

-- a document is put among those that are open, or memory is refused and nothing is
abbrev pub Puts : {U : Type 0} → DocumentsView → DocumentsView → DocumentView → Result U Fault → Type 0
Puts old new document (Ok done) = new ≡ record { encoding = old.encoding; documents = with_document old.documents document }
Puts old new document (Err fault) = (new ≡ old) × (fault ≡ memory_fault)
