-- The upper protocol and its number. Assumes nothing.
use Rattle.std.specs.Prelude.{ℕ, cond, Ok, Err, Result, ◌==◌, nat_lt}
use Rattle.fields.specs.declared.upper_protocol.NotFourBits.{NotFourBits}
use Rattle.fields.specs.declared.upper_protocol.UpperProtocol.{UpperProtocol}
use Rattle.fields.specs.declared.upper_protocol.UpperProtocol.TheVariants.{Any, BtpA, BtpB, Ipv6, Reserved4, Reserved5, Reserved6, Reserved7, Reserved8, Reserved9, Reserved10, Reserved11, Reserved12, Reserved13, Reserved14, Reserved15}

-- the upper protocol of a number below 16
abbrev pub upper_of : ℕ → UpperProtocol
upper_of n =
    cond (n == 0) Any (cond (n == 1) BtpA (cond (n == 2) BtpB (cond (n == 3) Ipv6 (
    cond (n == 4) Reserved4 (cond (n == 5) Reserved5 (cond (n == 6) Reserved6 (cond (n == 7) Reserved7 (
    cond (n == 8) Reserved8 (cond (n == 9) Reserved9 (cond (n == 10) Reserved10 (cond (n == 11) Reserved11 (
    cond (n == 12) Reserved12 (cond (n == 13) Reserved13 (cond (n == 14) Reserved14 (Reserved15)))))))))))))))

-- the upper protocol of a number, which must not be above 15
abbrev pub upper_from : ℕ → Result UpperProtocol NotFourBits
upper_from n = cond (nat_lt 15 n) (Err (record { number = n })) (Ok (upper_of n))

-- and its number
abbrev pub upper_number : UpperProtocol → ℕ
upper_number Any = 0
upper_number BtpA = 1
upper_number BtpB = 2
upper_number Ipv6 = 3
upper_number Reserved4 = 4
upper_number Reserved5 = 5
upper_number Reserved6 = 6
upper_number Reserved7 = 7
upper_number Reserved8 = 8
upper_number Reserved9 = 9
upper_number Reserved10 = 10
upper_number Reserved11 = 11
upper_number Reserved12 = 12
upper_number Reserved13 = 13
upper_number Reserved14 = 14
upper_number Reserved15 = 15
