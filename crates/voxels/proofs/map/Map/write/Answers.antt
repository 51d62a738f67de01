use Rattle.std.proofs.Common.{◌*◌, ◌++◌, length, drop, ap, ◌∙◌}
use Rattle.std.specs.List.{flat_map}
use Rattle.nodes.specs.Format.{bytes_of, values_of}
use Rattle.voxels.proofs.Writing.{words_back, words_fit}
use Rattle.voxels.proofs.map.Map.write.Goals as goal

pub returns-clause-tells : goal.returns-clause-tells
returns-clause-tells g c =
    let ws = g.S.TagStore.words c.args.self.now.store in
    let width = g.K.TagKind.WIDTH in
    let tags = c.write_words.ensures ∙ ap (λ w. flat_map (bytes_of w) ws ++ drop (w * length ws) c.args.tags.now) c.written_width.ensures in
    λ L cells ts s.
    ap (values_of width (length ws)) tags
    ∙ words_back width ws (drop (width * length ws) c.args.tags.now) (words_fit g.K.TagKind.word_of width g.met.K.TagKind.fits ts ws s.words_are)
