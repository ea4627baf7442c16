use Rattle.std.proofs.Common.{◌≡◌, ◌+◌, ◌-◌, ◌*◌, ◌<◌, ◌^◌, take, fold, true}
use Rattle.std.specs.List.{list_all}
use Rattle.line_parts.specs.Token.{is_digit}
use Rattle.line_parts.proofs.tokens.number_of.Given as goal

abbrev pub invariant-loop-byte : goal.invariant-loop-byte
invariant-loop-byte l = record {
  small : l.number < 10 ^ l.byte-index;
  value : l.number ≡ fold (λ n b. n * 10 + (b - 48)) 0 (take l.byte-index l.token);
  digits : list_all is_digit (take l.byte-index l.token) ≡ true;
}
