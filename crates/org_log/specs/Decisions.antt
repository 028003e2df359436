-- What is written where a heading gets a keyword (Org manual 9.6, "Closing items", "Tracking TODO state changes", "Tracking your
-- habits").
use Rattle.std.specs.Prelude.{Bool, false, true, ◌&&◌, ◌||◌, not, if◌then◌else◌, Option, Some, None, is_some}
use Rattle.org_log.specs.declared.decision.Decision.{Decision}
use Rattle.org_log.specs.declared.decision.LineKind.{LineKind}
use Rattle.org_log.specs.declared.decision.LineKind.TheVariants.{Closing, Nothing, Reopened, Repeated, State}
use Rattle.org_log.specs.declared.decision.Step.{Step}
use Rattle.org_log.specs.declared.decision.Wanted.{Wanted}
use Rattle.org_log.specs.declared.entry.Repeats.{Repeats}
use Rattle.org_log.specs.declared.entry.Repeats.TheVariants.{Always, Not, WithClock}
use Rattle.org_log.specs.declared.how.How.{How}
use Rattle.org_log.specs.declared.how.How.TheVariants.{Note, Time}

-- a note is asked for
abbrev pub is_note : Option How → Bool
is_note None = false
is_note (Some Time) = false
is_note (Some Note) = true

-- the heading is done, and was not before
abbrev pub is_new : Step → Bool
is_new s = s.is_done && not s.was_done

-- something of the file asks for more than tasks that come again
abbrev pub looks : Wanted → Bool
looks w = w.has_marks || is_some w.done

-- the heading gets `CLOSED:`, unless its task comes again
abbrev pub is_closed : Step → Wanted → Bool
is_closed s w = is_new s && is_some w.done

-- the line that keywords ask for, or else `lognotedone`
abbrev pub first_line_kind : Wanted → Bool → LineKind
first_line_kind w closed =
    if looks w && is_some w.state then State else (if closed && is_note w.done then Closing else Nothing)

-- the same, or a line for the note that is given
abbrev pub or_noted : Step → LineKind → LineKind
or_noted s Nothing = if s.has_note then State else Nothing
or_noted s kind = kind

-- the line of a task that comes again
abbrev pub or_repeated : Wanted → LineKind → LineKind
or_repeated w Nothing = if is_some w.repeat then Repeated else Nothing
or_repeated w kind = kind

abbrev pub or_again : Step → Wanted → LineKind → LineKind
or_again s w kind = if is_some w.again && s.had_keyword then Reopened else or_repeated w kind

abbrev pub repeats_of : Wanted → Repeats
repeats_of w = if is_some w.repeat then Always else WithClock

-- of a task that comes again `CLOSED:` goes
abbrev pub again_decision : Step → Wanted → LineKind → Decision
again_decision s w kind = record { is_closed = false; is_reopened = true; repeats = repeats_of w; line = or_again s w kind }

-- of another heading it goes where that gets an open keyword and had none
abbrev pub once_decision : Step → Wanted → LineKind → Decision
once_decision s w kind =
    record { is_closed = is_closed s w; is_reopened = looks w && (not s.is_done && not s.was_open); repeats = Not; line = kind }

-- what is written
abbrev pub decide : Step → Wanted → Decision
decide s w =
    if s.is_done && s.repeats then again_decision s w (or_noted s (first_line_kind w (is_closed s w)))
    else once_decision s w (or_noted s (first_line_kind w (is_closed s w)))
