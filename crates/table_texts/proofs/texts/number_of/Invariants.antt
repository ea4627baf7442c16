use Rattle.std.proofs.Common.{◌≡◌, ◌+◌, ◌-◌, ◌*◌, ◌<◌, ◌^◌, take, fold, true}
use Rattle.std.specs.List.{list_all}
use Rattle.table_texts.specs.TableText.{is_digit}
use Rattle.table_texts.proofs.texts.number_of.Given as goal

abbrev pub invariant-loop-byte : goal.invariant-loop-byte
invariant-loop-byte l = record {
  small : l.number < 10 ^ l.byte-index;
  value : l.number ≡ fold (λ n b. n * 10 + (b - 48)) 0 (take l.byte-index l.field);
  digits : list_all is_digit (take l.byte-index l.field) ≡ true;
}
