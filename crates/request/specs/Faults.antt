-- Why the words of a line are not taken. Assumes nothing.
use Rattle.hex_digits.specs.declared.fault.HexFault.{HexFault}
use Rattle.hex_digits.specs.declared.fault.HexFault.TheVariants as hexadecimal
use Rattle.request.specs.declared.fault.LineFault.{LineFault}
use Rattle.request.specs.declared.fault.LineFault.TheVariants.{NotUnderstood, NoMemory}

-- a word whose text is no octets is not understood
abbrev pub fault_of : HexFault → LineFault
fault_of hexadecimal.NotOctets = NotUnderstood
fault_of hexadecimal.NoMemory = NoMemory
