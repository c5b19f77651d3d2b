-- The frames of a text link, and when it has space. Assumes nothing.
use Rattle.std.specs.Prelude.{ℕ, ◌+◌, ◌*◌, Bool, List, length, nat_le}
use Rattle.link.specs.Frames.{Frame}
use Rattle.text_link.specs.declared.text.TextLink.{TextLink}
use Rattle.text_link.specs.Texts.{decoded}

-- its frames: what the text says
abbrev pub frames_of : TextLink → List Frame
frames_of t = decoded t.text

-- there is space for a packet of n octets while its line, 14 + 2 * n octets, still fits
abbrev pub has_space : TextLink → ℕ → Bool
has_space t n = nat_le (length t.text + (14 + 2 * n)) t.limit
