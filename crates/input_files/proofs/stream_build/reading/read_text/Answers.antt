use Rattle.input_files.proofs.stream_build_lemmas.Readings.{lost}
use Rattle.input_files.proofs.stream_build.reading.read_text.Goals as goal

pub returns-clause-whole : goal.returns-clause-whole
returns-clause-whole g c =
    λ tells. c.text_of.ensures.whole (g.R.Source.coming c.args.source.now) (c.in-Ok.ensures.whole tells)

pub returns-clause-fault : goal.returns-clause-fault
returns-clause-fault g c =
    λ tells. c.text_of.ensures.fault (g.R.Source.coming c.args.source.now) (c.in-Ok.ensures.whole tells)

pub returns-clause-part : goal.returns-clause-part
returns-clause-part g c =
    λ tells. lost (g.R.Source.coming c.args.source.now) (g.R.Source.coming c.get_up_to.new.source) 262145
    (c.in-Ok.ensures.rest tells)
