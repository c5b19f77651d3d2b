-- Frames, and what a send comes to.
use Rattle.std.specs.Prelude.{ℕ, Bool, cond, List, [], ◌∷◌, ◌++◌, Ok, Err, Result}
use Rattle.link.specs.declared.address.LinkAddress.{LinkAddress}
use Rattle.link.specs.declared.space.NoSpace.{NoSpace}

-- a link address, and the octets of a packet
pub record Frame : Type 0 where
  pub to : LinkAddress
  pub packet : List ℕ

abbrev pub frame : LinkAddress → List ℕ → Frame
frame to packet = record { to = to; packet = packet }

-- a send succeeds exactly if there is space
abbrev pub sent : Bool → Result (Unit {0}) NoSpace
sent space = cond space (Ok tt) (Err (record {}))

-- and then the frame is the last
abbrev pub joined : Bool → Frame → List Frame → List Frame
joined space f fs = cond space (fs ++ f ∷ []) fs
