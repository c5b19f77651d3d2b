-- When a timestamp is newer than another. Assumes nothing.
use Rattle.std.specs.Prelude.{ℕ, ◌+◌, ◌-◌, ◌%◌, ◌^◌, Bool, ◌&&◌, nat_le}

-- how far p is ahead of q, modulo 2^32
abbrev pub ahead : ℕ → ℕ → ℕ
ahead p q = (p + (2 ^ 32 - q)) % 2 ^ 32

-- p is newer than q: it is ahead by 1 to 2,147,483,647
abbrev pub newer : ℕ → ℕ → Bool
newer p q = nat_le 1 (ahead p q) && nat_le (ahead p q) 2147483647
