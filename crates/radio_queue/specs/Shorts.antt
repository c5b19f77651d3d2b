-- Which frames can wait in the queue. Assumes nothing.
use Rattle.std.specs.Prelude.{◌≤◌, length}
use Rattle.link.specs.Frames.{Frame}

-- its packet has at most 1,458 octets
abbrev pub IsShort : Frame → Type 0
IsShort f = length f.packet ≤ 1458
