use Rattle.vme_program.proofs.explain.save_files.Goals as goal

pub returns : goal.returns
returns g c =
    let viewer = rw (c.viewer_path.ensures, c.as_bytes-viewer.ensures) at c.save_wanted-status.ensures in
    let picture = rw (c.picture_path.ensures, c.as_bytes-picture.ensures) at c.save_wanted.ensures in
    (g.E.Sink.writing c.save_wanted-status.new.err, c.save_wanted-status.result, viewer, picture)
