use Rattle.std.proofs.Common.{◌≡◌, ◌+◌, ◌*◌, ◌++◌, take, vec_items, vec_len, vec_capacity}
use Rattle.text_link.specs.Texts.{digits}
use Rattle.text_link.proofs.line.put_hex.Given as goal

abbrev pub invariant-loop-octet : goal.invariant-loop-octet
invariant-loop-octet l = record {
  items : vec_items l.text ≡ vec_items l.initial.text ++ digits (take l.octet-index l.octets);
  len : vec_len l.text ≡ vec_len l.initial.text + 2 * l.octet-index;
  capacity : vec_capacity l.text ≡ vec_capacity l.initial.text;
}
