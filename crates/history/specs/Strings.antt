-- Events and a pool's byte string (02 (xiii), over the string of (iii)).
-- Assumes nothing.
use mathlib.Core.List.{List, Memᴰ}
use Rattle.std.specs.Prelude.{ℕ, ◌≤◌, ◌<◌, length}
use Rattle.laws.specs.Lists.{joined}
use Rattle.pools.specs.Events.{max_source, max_data, event_bytes}

-- an event: its source and its data
pub record Event : Type 0 where
  pub source : ℕ
  pub content : List ℕ

-- the bytes that its pool gains
unfoldable pub bytes_of : Event → List ℕ
bytes_of e = event_bytes e.source e.content

-- the byte string of a pool that gained these events, in this order
unfoldable pub string_of : List Event → List ℕ
string_of es = joined bytes_of es

-- an event that neither 11 nor 13 refuses
pub record Allowed (e : Event) : Type 0 where
  pub known : e.source ≤ max_source
  pub some : 0 < length e.content
  pub short : length e.content ≤ max_data

abbrev pub AllAllowed : List Event → Type 0
AllAllowed es = (e : Event) → Memᴰ e es → Allowed e
