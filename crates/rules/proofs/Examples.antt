-- The examples' rules, by computing.
-- Assumes nothing.
use mathlib.Core.Path.{refl}
use Rattle.paper.specs.Sizes.{PDU_MAX}
use Rattle.numbers.specs.Numbers.{little, width_of}
use Rattle.reading.specs.Layouts.{layout_of, rows_of_tail, rows_of_fields, bad_cb_id, rows_of_bytes, reading_rows}
use Rattle.rules.specs.Rules.{names_of_tail, value_name, names_of_fields, names_of_layout, reading_names, beside, reading_rules, first_of}
use Rattle.rules.specs.Examples.{FirstBroken}

pub examples : FirstBroken
unfolding PDU_MAX little width_of layout_of rows_of_tail rows_of_fields bad_cb_id rows_of_bytes reading_rows names_of_tail value_name names_of_fields names_of_layout reading_names beside reading_rules first_of
examples =
    record {
      empty = refl;
      command = refl;
      cb_id = refl;
      length_width = refl;
      pad = refl;
      pad_before_version = refl;
      ended = refl;
      version = refl;
      left_over = refl;
    }
