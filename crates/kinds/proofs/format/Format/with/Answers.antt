-- Both significands fit a word, so that nothing of them is lost there.
use Rattle.std.proofs.Common.{◌-◌, ◌^◌}
use Rattle.kinds.proofs.Sizes.{radix_two, few_digits, least_below, least_small, products_small}
use Rattle.kinds.proofs.Words.{in_word}
use Rattle.kinds.proofs.format.Format.with.Goals as goal

pub invariant_of-result : goal.invariant_of-result
invariant_of-result c =
    let least = in_word (c.args.radix ^ (c.args.precision - 1)) _ c.scaled.ensures
    (least_small c.args.radix c.args.precision c.requires) in
    let top = in_word (c.args.radix ^ c.args.precision) _ c.scaled-2.ensures c.requires.3 in record {
      kind = c.requires;
      least_is = least;
      top_is = top;
      radix_two = radix_two c.args.radix c.args.precision c.requires;
      few_digits = few_digits c.args.radix c.args.precision c.requires;
      least_below = rw (least, top) (least_below c.args.radix c.args.precision c.requires);
      product_above = rw top (products_small c.args.radix c.args.precision c.requires).0;
      product_small = rw top (products_small c.args.radix c.args.precision c.requires).1;
    }
