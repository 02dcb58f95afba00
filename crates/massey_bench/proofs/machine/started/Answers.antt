-- The words that were read are those of the image, and they are loaded on a new machine.
use Rattle.std.proofs.Common.{◌≡◌, ◌++◌, length, take, drop, refl, sym, ap, ◌∙◌}
use lib.ListN.{replicate}
use lib.Seq.{take_at}
use Rattle.vm.specs.declared.machine.Machine.{Machine as Code}
use Rattle.vm.specs.Calls.{Effect}
use Rattle.massey_bench.specs.Machine.{words_of}
use Rattle.massey_bench.proofs.Machines.{words_read, words-length, start-loaded}
use Rattle.massey_bench.proofs.machine.started.Goals as goal

pub returns : goal.returns
returns c =
    let image = c.args.image.now in
    let n = c.word_count-n.result in
    let got = c.get_words.new.out in
    let is_read : got ≡ words_of image = words_read image (replicate 256 0) refl c.word_count-n.ensures c.get_words.ensures in
    let got_length : length got ≡ n = ap length is_read ∙ words-length image ∙ sym c.word_count-n.ensures in
    let part_back : take n (got ++ drop n (replicate 256 0)) ≡ got = take_at got (drop n (replicate 256 0)) n got_length in
    ap (λ (s : Effect (Unit {0}) Code). s.machine) c.load_image.ensures ∙ start-loaded image (part_back ∙ is_read) c.new-m.ensures
