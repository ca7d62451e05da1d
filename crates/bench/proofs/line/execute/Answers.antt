use mathlib.Core.Path.{sym, ap, ◌∙◌}
use native.Mathlib.Omega.{arith}
use Rattle.std.specs.Prelude.{Some}
use Rattle.bench.proofs.Frames.{event-call, request-call, update-call, write-call, wide-event-call, no_frame-call}
use Rattle.bench.proofs.line.execute.Goals as goal

pub slice_bounds-event_line-count : goal.slice_bounds-event_line-count
slice_bounds-event_line-count c =
    let call = event-call _ (sym c.parse.ensures ∙ c.in-Some-Event.is ∙ ap Some c.in-Some-Event.field-0-is) in
    omega (arith, call.0)

pub slice_bounds-update_line-count : goal.slice_bounds-update_line-count
slice_bounds-update_line-count c =
    let call = update-call _ (sym c.parse.ensures ∙ c.in-Some-Update.is ∙ ap Some c.in-Some-Update.field-0-is) in
    omega (arith, call.0)

pub slice_bounds-event_line-count-in-Some-WideEvent : goal.slice_bounds-event_line-count-in-Some-WideEvent
slice_bounds-event_line-count-in-Some-WideEvent c =
    let call = wide-event-call _ (sym c.parse.ensures ∙ c.in-Some-WideEvent.is ∙ ap Some c.in-Some-WideEvent.field-0-is) in
    omega (arith, call.0)

pub returns-in-Some-Event : goal.returns-in-Some-Event
returns-in-Some-Event c =
    rw (event-call _ (sym c.parse.ensures ∙ c.in-Some-Event.is ∙ ap Some c.in-Some-Event.field-0-is)).1 c.event_line.ensures

pub returns-in-Some-Request : goal.returns-in-Some-Request
returns-in-Some-Request c =
    rw (request-call _ (sym c.parse.ensures ∙ c.in-Some-Request.is ∙ ap Some c.in-Some-Request.field-0-is)) c.request_line.ensures

pub returns-in-Some-Update : goal.returns-in-Some-Update
returns-in-Some-Update c =
    rw (update-call _ (sym c.parse.ensures ∙ c.in-Some-Update.is ∙ ap Some c.in-Some-Update.field-0-is)).1 c.update_line.ensures

pub returns-in-Some-Write : goal.returns-in-Some-Write
returns-in-Some-Write c =
    rw (write-call _ (sym c.parse.ensures ∙ c.in-Some-Write.is ∙ ap Some c.in-Some-Write.field-0-is)) c.write_line.ensures

pub returns-in-Some-WideEvent : goal.returns-in-Some-WideEvent
returns-in-Some-WideEvent c =
    rw (wide-event-call _ (sym c.parse.ensures ∙ c.in-Some-WideEvent.is ∙ ap Some c.in-Some-WideEvent.field-0-is)).1 c.event_line-in-Some-WideEvent.ensures

pub returns-in-None : goal.returns-in-None
returns-in-None c =
    rw (no_frame-call _ (sym c.parse.ensures ∙ c.in-None.is)) c.invalid_line.ensures

pub slice_bounds-event_line-start : goal.slice_bounds-event_line-start
slice_bounds-event_line-start c =
    let call = event-call _ (sym c.parse.ensures ∙ c.in-Some-Event.is ∙ ap Some c.in-Some-Event.field-0-is) in
    omega (arith, call.0)

pub slice_bounds-update_line-start : goal.slice_bounds-update_line-start
slice_bounds-update_line-start c =
    let call = update-call _ (sym c.parse.ensures ∙ c.in-Some-Update.is ∙ ap Some c.in-Some-Update.field-0-is) in
    omega (arith, call.0)

pub slice_bounds-event_line-start-in-Some-WideEvent : goal.slice_bounds-event_line-start-in-Some-WideEvent
slice_bounds-event_line-start-in-Some-WideEvent c =
    let call = wide-event-call _ (sym c.parse.ensures ∙ c.in-Some-WideEvent.is ∙ ap Some c.in-Some-WideEvent.field-0-is) in
    omega (arith, call.0)
