-- What the sinks in memory tell.
use Rattle.std.specs.Prelude.{ℕ, ◌+◌, ◌<◌, ◌≤◌, List, Option, Some, vec_capacity, vec_len}
use Rattle.slot_io.specs.Sinks.{AtSink}
use Rattle.shelf_io.specs.declared.memory_sink.MemSink.{MemSink}
use Rattle.shelf_io.specs.declared.memory_sink.PlainSink.{PlainSink}

-- the bytes that a sink holds
abbrev pub plain_held : PlainSink → List ℕ
plain_held sink = sink.bytes.items

-- what it tells as a sink, which never fails
abbrev pub at_plain : PlainSink → AtSink
at_plain sink = record { held = Some (plain_held sink); faults = 0 }

-- a sink has too little room for so many bytes more
abbrev pub plain_lacks : PlainSink → ℕ → Type 0
plain_lacks sink more = vec_capacity sink.bytes < vec_len sink.bytes + more

-- the same of a sink with failing calls, then its room, its count of faults, the calls that are to
-- fail, and how many calls were made
abbrev pub sink_held : MemSink → List ℕ
sink_held sink = sink.bytes.items

abbrev pub sink_lacks : MemSink → ℕ → Type 0
sink_lacks sink more = vec_capacity sink.bytes < vec_len sink.bytes + more

abbrev pub sink_room : MemSink → Option ℕ
sink_room sink = sink.room

abbrev pub sink_faults : MemSink → ℕ
sink_faults sink = sink.faults

abbrev pub at_mem : MemSink → AtSink
at_mem sink = record { held = Some (sink_held sink); faults = sink_faults sink }

abbrev pub sink_failing : MemSink → List ℕ
sink_failing sink = sink.plan.failing.items

abbrev pub sink_calls : MemSink → ℕ
sink_calls sink = sink.plan.calls

-- its list of calls that are to fail is full
abbrev pub sink_plan_full : MemSink → Type 0
sink_plan_full sink = vec_capacity sink.plan.failing ≤ vec_len sink.plan.failing
