mod Probes
