use Rattle.std.proofs.Common.{◌≡◌, true, sym, subst}
use Rattle.cells.specs.Hall.{cell_fits, cell_at, code_of}
use Rattle.cells.proofs.Codes.{cell_back, axis_below, cell_fits_back, in_sub_cubes}
use Rattle.cells.proofs.levels.Levels.deinterleave.Goals as goal

pub returns : goal.returns
returns c =
    let L = c.args.self.count in
    let n = c.args.code in
    let e : cell_at L n ≡ record { x = c.coordinate-x.result; y = c.coordinate-y.result; z = c.coordinate-z.result } =
    λ i. record { x = sym c.coordinate-x.ensures i; y = sym c.coordinate-y.ensures i; z = sym c.coordinate-z.ensures i } in
    record {
      value = sym e;
      inside = subst (λ d. cell_fits L d ≡ true) e (cell_fits_back L (cell_at L n) (axis_below L 0 n) (axis_below L 1 n) (axis_below L 2 n));
      back = λ l. subst (λ d. code_of L d ≡ n) e (cell_back L n l);
      sub_cubes = in_sub_cubes n;
    }
