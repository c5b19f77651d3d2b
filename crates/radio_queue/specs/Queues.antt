-- The frames that wait in a queue, and the first of them. Assumes nothing.
use Rattle.std.specs.Prelude.{ℕ, Bool, ◌&&◌, List, [], ◌∷◌, ◌++◌, length, drop, nat_le, nat_lt}
use Rattle.link.specs.Frames.{Frame, frame}
use Rattle.radio_queue.specs.declared.frame.Head.{Head}
use Rattle.radio_queue.specs.declared.frame.FrameView.{FrameView}
use Rattle.radio_queue.specs.declared.queue.RadioQueue.{RadioQueue}

-- there is space for a packet while fewer than eight frames wait, if it has at most 1,458 octets
abbrev pub has_space : RadioQueue → ℕ → Bool
has_space q n = nat_lt (length q.frames) 8 && nat_le n 1458

-- the frame that a view shows
abbrev pub viewed : FrameView → Frame
viewed v = frame v.to v.packet.now

-- where a frame goes, and how many octets its packet has
abbrev pub head_of : Frame → Head
head_of f = record { to = f.to; count = length f.packet }

-- a buffer with the first packet in its front; behind it, and if there is none, it stays as it was
abbrev pub first_over : List Frame → List ℕ → List ℕ
first_over [] out = out
first_over (f ∷ fs) out = f.packet ++ drop (length f.packet) out
